use Rattle.std.proofs.Common.{◌≡◌, drop}
use Rattle.std.specs.List.{list_any}
use Rattle.slot_list.specs.Recipe.{same}
use Rattle.slot_list.proofs.recipe.is_among.Given as goal

abbrev pub invariant-loop-r : goal.invariant-loop-r
invariant-loop-r l = list_any (λ r. same r l.recipe) (drop l.r-index l.recipes) ≡ list_any (λ r. same r l.recipe) l.recipes
