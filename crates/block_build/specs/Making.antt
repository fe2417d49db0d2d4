-- What a maker of blocks counts, and what it takes.
use Rattle.std.specs.Prelude.{◌≡◌, ℕ, ◌+◌, ◌⊎◌, List, [], ◌∷◌, ◌++◌, Option, Some, None}
use Rattle.fragment.specs.Parts.{Parts}

-- where blocks were taken: the address of each, and its index
abbrev pub Taken : Type 0
Taken = List (ℕ × ℕ)

-- A block was built and is counted, or it was taken; where there is none, neither.
abbrev pub Makes : ℕ → Option Parts → ℕ → ℕ → Taken → Taken → Type 0
Makes address None steps after taken now = (after ≡ steps) × (now ≡ taken)
Makes address (Some block) steps after taken now =
    ((after ≡ steps + 1) × (now ≡ taken)) ⊎ ((after ≡ steps) × ((index : ℕ) × (now ≡ taken ++ (address, index) ∷ [])))
