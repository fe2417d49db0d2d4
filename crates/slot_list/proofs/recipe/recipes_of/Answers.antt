use Rattle.std.proofs.Common.{◌≡◌, ◌<◌, ◌≤◌, ◌++◌, ◌∷◌, [], length, take, ap, sym, ◌∙◌, arith}
use Rattle.std.specs.List.{list_any}
use Rattle.std.proofs.lemmas.List.{take_all}
use Rattle.slot_list.specs.Recipe.{recipe_of, recipes_of, same}
use Rattle.slot_list.proofs.Uses.{is_use, new_use, few_recipes}
use Rattle.slot_list.proofs.recipe.recipes_of.Goals as goal
use Rattle.slot_list.proofs.recipe.recipes_of.Goals.{then-not-is_among+in_ok-push, else-not-is_among}

pub loop-guest-preserved : goal.loop-guest-preserved
loop-guest-preserved c =
    let within : c.loop-guest.guest-index < length c.args.guests.now = omega (arith, c.loop-guest-test.true, c.loop-guest.auto.guest-index-end) in
    let so_far = recipes_of (take c.loop-guest.guest-index c.args.guests.now) in
    let asked : list_any (λ q. same q (recipe_of c.guest-item.result)) so_far ≡ c.is_among.result =
    ap (λ r. list_any (λ q. same q r) so_far) (sym c.recipe_of-recipe.ensures)
    ∙ ap (list_any (λ q. same q c.recipe_of-recipe.result)) (sym (c.deref.ensures.value ∙ c.loop-guest.invariant)) ∙ sym c.is_among.ensures in
    elim c.if-not-is_among.branch [
      | then-not-is_among+in_ok-push w ↦
          let more = new_use c.args.guests.now c.loop-guest.guest-index c.guest-item.result c.guest-item.result within c.guest-item.is (asked ∙ w.if-not-is_among.true) in
          ap (λ v. v.items) w.recipes-is ∙ w.in_ok-push.ensures.items ∙ ap (λ rs. rs ++ c.recipe_of-recipe.result ∷ []) c.loop-guest.invariant
          ∙ ap (λ r. so_far ++ r ∷ []) c.recipe_of-recipe.ensures ∙ sym more
      | else-not-is_among w ↦
          let same_still = is_use c.args.guests.now c.loop-guest.guest-index c.guest-item.result c.guest-item.result within c.guest-item.is (asked ∙ w.if-not-is_among.false) in
          ap (λ v. v.items) w.recipes-is ∙ c.loop-guest.invariant ∙ sym same_still
    ]

pub returns-clause-few : goal.returns-clause-few
returns-clause-few c =
    let all : length c.args.guests.now ≤ c.loop-guest.guest-index = omega (arith, c.loop-guest-test.false, c.loop-guest.auto.guest-index-end) in
    let whole : c.loop-guest.recipes.items ≡ recipes_of c.args.guests.now = c.loop-guest.invariant ∙ ap recipes_of (take_all c.loop-guest.guest-index c.args.guests.now all) in
    omega (arith, ap length whole, few_recipes c.args.guests.now)
