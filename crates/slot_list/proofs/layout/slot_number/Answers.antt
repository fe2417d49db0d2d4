use Rattle.std.proofs.Common.{◌≡◌, length, Some, ap, subst, ◌∙◌, rules}
use Rattle.std.specs.Prelude.{slice_get}
use Rattle.slot_list.proofs.Numbers.{slot_at}
use Rattle.slot_list.proofs.layout.slot_number.Goals as goal

pub returns : goal.returns
returns c modules m module_is =
    let segs : c.from.result ≡ c.args.layout.now.segs = c.from.ensures ∙ ap (λ l. l.segs) c.layout.view_is in
    let recipes : c.len.result ≡ length c.args.layout.now.recipes = let n : c.len.result ≡ length c.layout.inside.recipes.items = search rules in n ∙ ap (λ l. length l.recipes) c.layout.view_is in
    let listed : slice_get c.args.layout.now.recipes c.place_of.result ≡ Some c.args.recipe =
    subst (λ rs. slice_get rs c.place_of.result ≡ Some c.args.recipe) (c.deref.ensures.value ∙ ap (λ l. l.recipes) c.layout.view_is) c.place_of.ensures in
    rw (segs, recipes, c.from-2.ensures) (slot_at c.args.layout.now modules c.args.module c.args.seg c.place_of.result m c.args.recipe module_is c.requires.seg listed)
