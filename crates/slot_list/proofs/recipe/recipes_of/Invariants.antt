use Rattle.std.proofs.Common.{◌≡◌, take}
use Rattle.slot_list.specs.Recipe.{recipes_of}
use Rattle.slot_list.proofs.recipe.recipes_of.Given as goal

abbrev pub invariant-loop-guest : goal.invariant-loop-guest
invariant-loop-guest l = l.recipes.items ≡ recipes_of (take l.guest-index l.guests)
