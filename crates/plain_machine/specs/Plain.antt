-- The plain run of a guest, as it is told.
use Rattle.std.specs.Prelude.{◌≡◌, ℕ, List, None}
use Rattle.probe_tools.specs.declared.tool.Tool.{Tool}
use Rattle.probe_tools.specs.declared.event.Event.{Event}
use Rattle.probe_tools.specs.Rows.{AreRows, Counts}
use Rattle.plain_machine.specs.declared.ends.End.{End}
use Rattle.plain_machine.specs.Machine.{Setting, Guest}
use Rattle.plain_machine.specs.Run.{Run, plain, IsComplete}
use Rattle.plain_machine.specs.Cut.{cut}
use Rattle.plain_machine.specs.Own.{AreOwn}
use Rattle.plain_machine.specs.Events.{events}

-- the events of a whole run, cut into blocks of at most `max` instructions
abbrev pub run_events : Tool → ℕ → Run → List Event
run_events tool max run = events tool (cut max 0 None run.states)

-- The plain run of a guest that is alone, whose modules are these files at its start, ends so, and wrote this. It took
-- these map answers, which its own calls make them. The counts are the rows of what its tool sees.
pub record IsPlainRun (w : Setting) (g : Guest) (tool : Tool) (max : ℕ) (files maps : List ℕ) (end : End) (output : List ℕ) (counts : Counts) : Type 0 where
  pub own : AreOwn w g files maps
  pub complete : IsComplete (plain w g maps) end
  pub wrote : (plain w g maps).output ≡ output
  pub rows : AreRows (run_events tool max (plain w g maps)) counts
