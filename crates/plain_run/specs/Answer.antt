-- How a run goes on behind a call.
use Rattle.std.specs.Prelude.{◌≡◌, ℕ, List, ◌++◌, Option, Some, None, Result, Ok, Err, Bool, true, false}
use Rattle.plain_machine.specs.declared.access.MemErr.{MemErr}
use Rattle.plain_machine.specs.declared.ends.End.{End}
use Rattle.plain_machine.specs.Memory.{Memory}
use Rattle.plain_machine.specs.Machine.{State, Setting, Ends, call, To, transition_by, base_at, map_module}
use Rattle.plain_machine.specs.Own.{taken_by, files_after}

-- Behind the call of the state now the run goes on in state next. Besides the map answers before, it took just those that
-- the call makes them, where the modules were these files; they are those files then.
pub record GoesOn (w : Setting) (now next : State) (files later : List ℕ) (before after : List ℕ) : Type 0 where
  pub took : after ≡ before ++ taken_by files (call now)
  pub become : later ≡ files_after w files (call now)
  pub goes : (answers : List ℕ) → transition_by w (taken_by files (call now) ++ answers) now (call now) ≡ To next answers

-- The call of the state now ends the run, and changes nothing that is told.
pub record EndsRun (now next : State) (before after : List ℕ) (end : End) : Type 0 where
  pub same : after ≡ before
  pub output : next.io.output ≡ now.io.output
  pub stops : call now ≡ Ends end

abbrev pub Answers : Setting → State → State → List ℕ → List ℕ → List ℕ → List ℕ → Option End → Type 0
Answers w now next files later before after None = GoesOn w now next files later before after
Answers w now next files later before after (Some end) = EndsRun now next before after end

-- A call to map module k, with its answer still to be put into the state now, is answered.
pub record Maps (w : Setting) (k : ℕ) (now next : State) (taken before after : List ℕ) : Type 0 where
  pub took : after ≡ before ++ taken
  pub maps : (answers : List ℕ) → map_module w now k (taken ++ answers) (base_at w k) ≡ To next answers

abbrev pub IsRefused : Result Memory MemErr → Type 0
IsRefused (Ok m) = ⊥
IsRefused (Err e) = Unit {0}

-- a program was placed, or refused with the memory as it was
abbrev pub Placing : Memory → Result Memory MemErr → Memory → Bool → Type 0
Placing old made new true = made ≡ Ok new
Placing old made new false = IsRefused made × (new ≡ old)
