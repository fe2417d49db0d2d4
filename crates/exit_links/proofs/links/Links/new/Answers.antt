use Rattle.std.proofs.Common.{ap}
use Rattle.exit_links.specs.Linked.{linked}
use Rattle.exit_links.proofs.Pairs.{pairs-none}
use Rattle.exit_links.proofs.links.Links.new.Goals as goal

pub returns : goal.returns
returns c = ap (linked c.args.places) (pairs-none c.in_ok-lists.lists c.in_ok-lists.ensures.leads)
