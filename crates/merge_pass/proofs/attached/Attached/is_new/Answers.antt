use Rattle.std.proofs.Common.{◌≡◌, ◌∙◌, sym, ap}
use Rattle.std.specs.Prelude.{is_some}
use Rattle.std.specs.Ordering.{nat_cmp}
use Rattle.std.specs.Cmp.{nat_cmp_total}
use Rattle.std.specs.Arc.{arc_value}
use Rattle.std.specs.FinSet as set
use Rattle.unit_set.specs.Held.{addresses, place_in}
use Rattle.merge_pass.proofs.Members.{member, placed, neither, held}
use Rattle.merge_pass.proofs.attached.Attached.is_new.Goals as goal

pub returns-then-is_none : goal.returns-then-is_none
returns-then-is_none c =
    let a = c.args.addr in
    let ks = addresses (arc_value c.self.inside.unit).frags in
    let unit : set.contains c.args.self.now.addresses a ≡ is_some c.find.result =
    ap (λ s. set.contains s.addresses a) (sym c.self.view_is) ∙ member ks a ∙ sym (placed a ks) ∙ sym (ap is_some c.find.ensures.place ∙ ap (λ u. is_some (place_in u.frags a)) c.deref.ensures) in
    let offered : set.contains c.args.self.now.offered a ≡ c.contains.result =
    ap (λ s. set.contains s.offered a) (sym c.self.view_is) ∙ set.contains-from_list nat_cmp_total c.self.inside.offered.keys a ∙ sym c.contains.ensures in
    neither _ _ _ _ unit c.if-is_none.ensures offered

pub returns-else-is_none : goal.returns-else-is_none
returns-else-is_none c =
    let a = c.args.addr in
    let ks = addresses (arc_value c.self.inside.unit).frags in
    let unit : set.contains c.args.self.now.addresses a ≡ is_some c.find.result =
    ap (λ s. set.contains s.addresses a) (sym c.self.view_is) ∙ member ks a ∙ sym (placed a ks) ∙ sym (ap is_some c.find.ensures.place ∙ ap (λ u. is_some (place_in u.frags a)) c.deref.ensures) in
    c.if-is_none.false ∙ held _ (set.contains c.args.self.now.offered a) _ unit c.if-is_none.ensures
