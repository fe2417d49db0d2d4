use Rattle.std.proofs.Common.{◌∙◌, ap, ◌+◌, ◌*◌}
use Rattle.std.specs.FinMap.{insert}
use Rattle.exit_links.specs.Linked.{linked}
use Rattle.exit_links.proofs.Pairs.{pairs-put}
use Rattle.exit_links.proofs.links.Links.link.Goals as goal

pub returns : goal.returns
returns c =
    let k = 2 * c.args.from + c.args.exit in
    ap (linked c.self.inside.places) (pairs-put c.self.inside.lists c.lead.new.lists k c.args.to c.lead.ensures.leads) ∙ ap (λ l. linked l.places (insert l.pairs k c.args.to)) c.self.view_is
