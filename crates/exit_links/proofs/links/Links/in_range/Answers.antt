use Rattle.std.proofs.Common.{◌≡◌, sym, ◌∙◌, ap, arith, Some}
use Rattle.std.specs.FinMap.{get}
use Rattle.exit_links.specs.Leads.{leads}
use Rattle.exit_links.proofs.Pairs.{get-pairs}
use Rattle.exit_links.proofs.links.Links.in_range.Goals as goal

pub returns : goal.returns
returns c = λ x q there.
    let v = c.self.inside.lists in
    let led : leads v x ≡ Some q = sym (get-pairs v x) ∙ ap (λ l. get l.pairs x) c.self.view_is ∙ there in
    let r = c.in_range.ensures x q led in
    let places = ap (λ l. l.places) c.self.view_is in
    (omega (arith, r.0, c.self.invariant.exits, places), omega (arith, r.1, c.self.invariant.heads, places))
