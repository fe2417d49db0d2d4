-- What a block does to a run of the plain machine.
use Rattle.std.specs.Prelude.{◌≡◌, ℕ, ◌+◌, List}
use Rattle.plain_machine.specs.declared.ends.End.TheVariants as ends
use Rattle.plain_machine.specs.Machine.{State, Setting, call, transition_by}
use Rattle.plain_machine.specs.Run.{run, run_behind}
use Rattle.plain_machine.specs.Cut.{Marked, marked, with_marks, over}
use Rattle.fragment.specs.Parts.{Parts}
use Rattle.engine.specs.declared.block.Left.{Left}
use Rattle.engine.specs.declared.block.Left.TheVariants as left
use Rattle.engine.specs.Words.{DoesWords, marks_before}

-- The run behind a block that was left so, with its cut: from the state next, where the next block begins; behind a call
-- that is made in it; or none, where an instruction faulted.
abbrev pub onward : ℕ → Left → ℕ → State → Setting → List ℕ → Marked
onward max (left.Exit e) rest next w answers = marked max (run w rest answers next)
onward max left.Asked rest next w answers = marked max (run_behind w rest next (transition_by w answers next (call next)))
onward max (left.Touched span) rest next w answers = marked max (run w rest answers next)
onward max (left.Fault kind) rest next w answers = over (ends.Fault kind next.cpu.pc) next.io.output answers
onward max left.Fuel rest next w answers = marked max (run w rest answers next)

-- The run from s, with this fuel, begins with n words of the block. Their states are those of the run, and the first
-- alone begins a block; the rest of the fuel is left.
pub record RunsBlock (max : ℕ) (block : Parts) (n fuel : ℕ) (s : State) (how : Left) (rest : ℕ) (next : State) : Type 0 where
  pub spent : rest + n ≡ fuel
  pub ran_out : how ≡ left.Fuel → rest ≡ 0
  pub words : DoesWords block n s how next
  pub seen : (w : Setting) (answers : List ℕ) → marked max (run w fuel answers s) ≡ with_marks (marks_before block.words s n) (onward max how rest next w answers)
