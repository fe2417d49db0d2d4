use Rattle.std.proofs.Common.{◌<◌, sym, ap, ◌∙◌, subst}
use Rattle.in_lists.specs.Lists.{IsIn, IsKept}
use Rattle.in_lists.specs.Linked.{lists_of}
use Rattle.in_lists.proofs.Keeping.{kept}
use Rattle.in_lists.proofs.Calls.{has_head, head_is}
use Rattle.in_lists.proofs.lists.InLists.head_of.Goals as goal

pub returns : goal.returns
returns c =
    let ns = c.self.inside.nodes in let exits = c.self.inside.exits in let linked = c.self.invariant in let e = c.args.exit in
    let below = subst (λ v. e < v.exits) (sym c.self.view_is) c.requires in
    let is = ap (λ n. n.head) c.get.ensures in
    λ h. (
      λ has. subst (λ v. IsIn v e h) c.self.view_is (has_head ns exits (lists_of ns exits) linked e h below (sym is ∙ has)),
      λ inside. is ∙ head_is ns exits (lists_of ns exits) linked e h (subst (λ v. IsIn v e h) (sym c.self.view_is) inside),
    )
