use Rattle.exit_links.specs.Linked.{linked}
use Rattle.exit_links.proofs.Pairs.{pairs-none}
use Rattle.exit_links.proofs.links.Links.clear.Goals as goal

pub returns : goal.returns
returns c = λ i. linked (c.self.view_is i).places (pairs-none c.cut_all.new.lists c.cut_all.ensures.leads i)
