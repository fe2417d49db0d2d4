-- Runs of the plain machine.
use Rattle.std.specs.Prelude.{◌≡◌, ℕ, zero, suc, if◌then◌else◌, List, [], ◌∷◌, Option, Some, None}
use Rattle.plain_machine.specs.declared.ends.End.{End}
use Rattle.plain_machine.specs.declared.ends.End.TheVariants as ends
use Rattle.plain_machine.specs.Program.{Program}
use Rattle.plain_machine.specs.Machine.{State, action, is_done, Transition, To, Final, Stuck, transition, Setting, Guest, base_at, file_at, start}

pub record Run : Type 0 where
  -- the states whose instruction is done, in order
  pub states : List State
  -- how it ends; none where it is stuck
  pub end : Option End
  -- what was written by then
  pub output : List ℕ
  -- the map answers that were not taken
  pub left : List ℕ

abbrev pub ended : State → End → List ℕ → Run
ended s end answers = record { states = []; end = Some end; output = s.io.output; left = answers }

abbrev pub stuck : State → Run
stuck s = record { states = []; end = None; output = s.io.output; left = [] }

-- the state comes first, where its instruction is done
abbrev pub with_state : State → Run → Run
with_state s run = if is_done (action s) then record run { states = s ∷ run.states } else run

-- the run from a state with this fuel, and with these map answers to take: one transition after the other
unfoldable pub run : Setting → ℕ → List ℕ → State → Run
run w zero answers s = ended s ends.Fuel answers
run w (suc fuel) answers s = with_state s (elim (transition w answers s) as (λ _. Run) [
  | To next left ↦ run w fuel left next
  | Final end left ↦ ended s end left
  | Stuck ↦ stuck s
])

-- the run behind a transition of s
abbrev pub run_behind : Setting → ℕ → State → Transition → Run
run_behind w fuel s (To next left) = run w fuel left next
run_behind w fuel s (Final end left) = ended s end left
run_behind w fuel s Stuck = stuck s

-- ---- the whole run of a guest

-- nothing of it is done
abbrev pub unstarted : Option End → List ℕ → Run
unstarted end answers = record { states = []; end = end; output = []; left = answers }

abbrev pub run_from : Setting → Guest → List ℕ → Option State → Run
run_from w g answers None = unstarted (Some ends.Unplaced) answers
run_from w g answers (Some s) = run w g.fuel answers s

abbrev pub run_of : Setting → Guest → ℕ → List ℕ → Option ℕ → Option Program → Run
run_of w g f answers (Some base) (Some program) = run_from w g answers (start g f base program)
run_of w g f answers (Some base) None = unstarted None []
run_of w g f answers None (Some program) = unstarted None []
run_of w g f answers None None = unstarted None []

-- The first map answer is the file of the guest's program.
abbrev pub plain : Setting → Guest → List ℕ → Run
plain w g [] = unstarted None []
plain w g (f ∷ answers) = run_of w g f answers (base_at w g.program) (file_at w f)

-- the run ends so, and took every map answer
pub record IsComplete (run : Run) (end : End) : Type 0 where
  pub ends : run.end ≡ Some end
  pub took_all : run.left ≡ []
