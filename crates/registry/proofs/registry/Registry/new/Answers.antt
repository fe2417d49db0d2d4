use Rattle.std.proofs.Common.{◌∙◌, sym, ap, subst, arith, length, List, ℕ, [], map, option_map, false}
use Rattle.std.specs.Arc.{arc_value}
use Rattle.registry.specs.declared.entry.Entry.{Entry}
use Rattle.registry.specs.Content.{content_of}
use Rattle.registry.specs.Opening.{Opening}
use Rattle.registry.specs.State.{SlotState}
use Rattle.registry.specs.Registry.{slots_opened}
use Rattle.registry.specs.History.{IsKept}
use Rattle.std.specs.Vec.{vec_capacity}
use Rattle.std.proofs.lemmas.List.{length-map}
use Rattle.registry.proofs.Keeps.{found_length, opened_kept, st}
use Rattle.registry.proofs.registry.Registry.new.Goals as goal

pub slots_of-requires : goal.slots_of-requires
slots_of-requires c =
    let o = c.args.opening in
    omega (
      arith,
      ap length c.deref-2.ensures.value,
      ap length c.deref-3.ensures.value,
      ap (λ (x : Opening). length x.shut) c.opening.view_is,
      ap (λ (x : Opening). length x.found) c.opening.view_is,
      length-map c.opening.inside.found.items (option_map (λ u. content_of (arc_value u))),
      found_length o.slots o.found c.requires.found,
      c.requires.shut,
    )

pub invariant_of-result : goal.invariant_of-result
invariant_of-result c =
    let o = c.args.opening in
    let room = vec_capacity c.reserve.new.self in
    let files = c.in_ok-files.ensures.items ∙ (c.deref.ensures.value ∙ ap (λ (x : Opening). x.modules) c.opening.view_is) in
    let slots = c.in_ok-slots.ensures ∙ (ap (λ xs. slots_opened (map (option_map (λ u. content_of (arc_value u))) xs) c.deref-3.result.now) c.deref-2.ensures.value
    ∙ (ap (λ xs. slots_opened (map (option_map (λ u. content_of (arc_value u))) c.opening.inside.found.items) xs) c.deref-3.ensures.value ∙ ap (λ (x : Opening). slots_opened x.found x.shut) c.opening.view_is)) in
    subst (λ (j : List Entry). IsKept o j (st c.in_ok-files.files.items c.in_ok-slots.slots.items 0 false) 1 room) (sym (c.reserve.ensures.items ∙ c.new-journal.ensures.items))
    (subst (λ (x : List ℕ). IsKept o [] (st x c.in_ok-slots.slots.items 0 false) 1 room) (sym files)
    (subst (λ (x : List SlotState). IsKept o [] (st o.modules x 0 false) 1 room) (sym slots)
    (opened_kept o room c.requires (omega (arith, c.in_ok-reserve.ensures.ok)))))
