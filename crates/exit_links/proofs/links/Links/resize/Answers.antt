use Rattle.std.proofs.Common.{sym, ◌∙◌, ap, arith}
use Rattle.std.specs.FinMap.{get}
use Rattle.exit_links.specs.Linked.{linked}
use Rattle.exit_links.proofs.Pairs.{get-pairs, pairs-same}
use Rattle.exit_links.proofs.links.Links.resize.Goals as goal

pub moved-requires-clause-fits : goal.moved-requires-clause-fits
moved-requires-clause-fits c = λ x q led.
    let r = c.requires x q (ap (λ l. get l.pairs x) (sym c.self.view_is) ∙ get-pairs c.self.inside.lists x ∙ led) in
    (omega (arith, r.0, c.in_ok-exits.ensures), r.1)

pub returns-clause-ok : goal.returns-clause-ok
returns-clause-ok c = ap (linked c.args.places) (pairs-same c.self.inside.lists c.in_ok-self-inside.field-0 c.in_ok-self-inside.ensures.leads ∙ ap (λ l. l.pairs) c.self.view_is)
