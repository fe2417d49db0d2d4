-- How far a guest comes with one instruction.
use Rattle.std.specs.Prelude.{◌≡◌, ℕ, suc, Bool, List, [], ◌++◌, Option, Some, None}
use Rattle.probe_tools.specs.declared.tool.Tool.{Tool}
use Rattle.probe_tools.specs.Rows.{Counts}
use Rattle.plain_machine.specs.declared.ends.End.{End}
use Rattle.plain_machine.specs.Region.{Area}
use Rattle.plain_machine.specs.Machine.{State, Setting}
use Rattle.plain_machine.specs.Run.{run}
use Rattle.plain_machine.specs.Cut.{marked_in, with_marks, over}
use Rattle.plain_machine.specs.Own.{own_answers}
use Rattle.plain_run.specs.Runs.{Counted, states_of}
use Rattle.plain_run.specs.declared.block.OpenBlock.{OpenBlock}
use Rattle.plain_run.specs.Places.{LiesAt}

-- The run from s, with this block open in this region, does one instruction, and goes on from next with that block open.
pub record Moves (w : Setting) (tool : Tool) (max : ℕ) (block : OpenBlock) (place : Option Area) (s : State) (block_after : OpenBlock) (next : State) (old new : Counts) (files later before after : List ℕ) : Type 0 where
  pub marks : List (State × Bool)
  pub counted : Counted tool marks old new
  pub taken : List ℕ
  pub took : after ≡ before ++ taken
  pub own : (states : List State) → own_answers w files (states_of marks ++ states) ≡ taken ++ own_answers w later states
  -- the region that the instruction was in
  pub region : Option Area
  pub lies : LiesAt block_after.region region
  pub seen : (fuel : ℕ) (answers : List ℕ) → marked_in max block.room place (run w (suc fuel) (taken ++ answers) s) ≡ with_marks marks (marked_in max block_after.room region (run w fuel answers next))

-- The run from s ends, before its instruction or with it.
pub record Finishes (w : Setting) (tool : Tool) (max : ℕ) (block : OpenBlock) (place : Option Area) (s next : State) (old new : Counts) (files before after : List ℕ) (end : End) : Type 0 where
  pub marks : List (State × Bool)
  pub counted : Counted tool marks old new
  pub same : after ≡ before
  pub own : own_answers w files (states_of marks) ≡ []
  pub seen : (fuel : ℕ) (answers : List ℕ) → marked_in max block.room place (run w (suc fuel) answers s) ≡ with_marks marks (over end next.io.output answers)

abbrev pub OneWord : Setting → Tool → ℕ → OpenBlock → Option Area → State → OpenBlock → State → Counts → Counts → List ℕ → List ℕ → List ℕ → List ℕ → Option End → Type 0
OneWord w tool max block place s block_after next old new files later before after None = Moves w tool max block place s block_after next old new files later before after
OneWord w tool max block place s block_after next old new files later before after (Some end) = Finishes w tool max block place s next old new files before after end
