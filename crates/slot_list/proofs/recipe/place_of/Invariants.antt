use Rattle.std.proofs.Common.{◌≡◌, ℕ, ◌<◌, get_or}
use Rattle.slot_list.proofs.recipe.place_of.Given as goal

-- it is not among those that were looked at
abbrev pub invariant-loop-i : goal.invariant-loop-i
invariant-loop-i l = (k : ℕ) → k < l.i → get_or l.recipes k l.recipe ≡ l.recipe → ⊥
