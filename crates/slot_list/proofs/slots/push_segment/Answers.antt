use Rattle.std.proofs.Common.{◌≡◌, ◌<◌, length, ap, sym, subst, ◌∙◌, All, arith}
use Rattle.std.proofs.lemmas.List.Elements.{All-push}
use Rattle.manifest.specs.Entries.{ModuleEntry}
use Rattle.unit_set.specs.Slot.{Slot, IsSlot}
use Rattle.slot_list.specs.Recipe.{Recipe}
use Rattle.slot_list.specs.Slots.{slot_for}
use Rattle.slot_list.proofs.Numbers.{slot_more, is_slot}
use Rattle.slot_list.proofs.slots.push_segment.Goals as goal

pub loop-recipe-preserved : goal.loop-recipe-preserved
loop-recipe-preserved c =
    let within : c.loop-recipe.recipe-index < length c.args.recipes.now = omega (arith, c.loop-recipe-test.true, c.loop-recipe.auto.recipe-index-end) in
    let m : ModuleEntry = record { name = c.module.inside.name; file = c.module.inside.file; base = c.module.inside.base } in
    let r : Recipe = record { isa = c.recipe.inside.isa; tool = c.recipe.inside.tool; max = c.recipe.inside.max } in
    let slot : Slot = record { name = c.in_ok-copy.field-0; seg = c.args.seg; base = m.base; isa = r.isa; tool = r.tool; max = r.max } in
    let named : slot ≡ slot_for m c.args.seg r = ap (λ n. let s : Slot = record { name = n; seg = c.args.seg; base = m.base; isa = r.isa; tool = r.tool; max = r.max } in s) c.in_ok-copy.ensures in
    let made : slot ≡ slot_for c.args.module.now c.args.seg c.recipe-item.result =
    named ∙ ap (λ x. slot_for x c.args.seg r) c.module.view_is ∙ ap (slot_for c.args.module.now c.args.seg) c.recipe.view_is in
    let spelled = is_slot c.in_ok-copy.field-0 m.name c.args.seg m.base r c.in_ok-copy.ensures c.module.invariant c.recipe.invariant c.requires.seg in
    record {
      slots = slot_more _ _ c.args.slots.now.items c.args.module.now c.args.seg c.args.recipes.now c.loop-recipe.recipe-index c.recipe-item.result c.recipe-item.result slot within c.recipe-item.is made c.in_ok-push.ensures.items c.loop-recipe.invariant.slots;
      spelled = subst (All IsSlot) (sym c.in_ok-push.ensures.items) (All-push IsSlot c.loop-recipe.slots.items slot c.loop-recipe.invariant.spelled spelled);
    }
