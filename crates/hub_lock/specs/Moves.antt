-- For the tests: the moves of a counter, each up or down by one, told by a flag.
use Rattle.std.specs.Prelude.{ℕ, ◌≤◌, List, Bool, true, false}
use Rattle.std.proofs.Common.{arith}
use Rattle.hub_lock.specs.Places.{total}
use Rattle.hub_lock.specs.Merge.{IsMerged, total-merged}

abbrev pub one_up : Bool → ℕ
one_up true = 1
one_up false = 0

abbrev pub one_down : Bool → ℕ
one_down true = 0
one_down false = 1

-- how many of the moves go up, and how many go down
abbrev pub ups : {E : Type 0} → List E → (E → Bool) → ℕ
ups moves up = total (λ m. one_up (up m)) moves

abbrev pub downs : {E : Type 0} → List E → (E → Bool) → ℕ
downs moves up = total (λ m. one_down (up m)) moves

-- as many go up as down, or more
abbrev pub IsCovered : {E : Type 0} → List E → (E → Bool) → Type 0
IsCovered moves up = downs moves up ≤ ups moves up

pub IsCovered-merged : {E : Type 0} (up : E → Bool) (zs xs ys : List E) → IsMerged zs xs ys → IsCovered xs up → IsCovered ys up → IsCovered zs up
IsCovered-merged up zs xs ys m a b = omega (arith, total-merged (λ e. one_up (up e)) zs xs ys m, total-merged (λ e. one_down (up e)) zs xs ys m, a, b)
