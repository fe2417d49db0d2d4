-- What the parts of the work answer.
use Rattle.std.specs.Prelude.{◌≡◌, ◌≢◌, ◌⊎◌, ℕ, List, [], ◌∷◌, Result, Ok, Err}
use Rattle.host_text.specs.declared.cause.Cause.{Cause}
use Rattle.host_text.specs.declared.cause.Cause.TheVariants as causes
use Rattle.host.specs.Outcome.{Source, Agrees}

-- these are the bytes of these names
abbrev pub AreRead : Source → ℕ → List (List ℕ) → List (List ℕ) → Type 0
AreRead s limit [] [] = Unit {0}
AreRead s limit [] (bytes ∷ rest) = ⊥
AreRead s limit (name ∷ names) [] = ⊥
AreRead s limit (name ∷ names) (bytes ∷ rest) = Agrees s limit name (Ok bytes) × AreRead s limit names rest

-- the first of these names that was not read is so for this reason
abbrev pub Fails : Source → ℕ → List (List ℕ) → Cause → Type 0
Fails s limit [] cause = ⊥
Fails s limit (name ∷ names) cause =
    Agrees s limit name (Err cause) ⊎ ((bytes : List ℕ) × Agrees s limit name (Ok bytes) × Fails s limit names cause)

-- files were read, and then inputs
pub record ReadsBoth (s : Source) (files inputs : List (List ℕ)) (contents read : List (List ℕ)) : Type 0 where
  pub files_read : AreRead s 4194304 files contents
  pub inputs_read : AreRead s 1048576 inputs read

-- a file, or behind the files an input, was not read for this reason
abbrev pub ReadsFail : Source → List (List ℕ) → List (List ℕ) → Cause → Type 0
ReadsFail s files inputs cause = Fails s 4194304 files cause ⊎ ((contents : List (List ℕ)) × AreRead s 4194304 files contents × Fails s 1048576 inputs cause)

-- an answer that is what it has to be. Memory may run out
abbrev pub Gives : {X Y : Type 0} → (X → Y) → Result Y Cause → Result X Cause → Type 0
Gives seen meant (Ok x) = meant ≡ Ok (seen x)
Gives seen meant (Err cause) = cause ≢ causes.Memory → meant ≡ Err cause
