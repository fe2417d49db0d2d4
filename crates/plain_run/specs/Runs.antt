-- The whole run of a guest, and what was counted of it.
use Rattle.std.specs.Prelude.{◌≡◌, ℕ, Bool, List, [], ◌++◌, map}
use Rattle.probe_tools.specs.declared.tool.Tool.{Tool}
use Rattle.probe_tools.specs.declared.event.Event.{Event}
use Rattle.probe_tools.specs.Rows.{AreRows, Counts}
use Rattle.plain_machine.specs.declared.ends.End.{End}
use Rattle.plain_machine.specs.Machine.{State, Setting}
use Rattle.plain_machine.specs.Run.{run}
use Rattle.plain_machine.specs.Cut.{marked, with_marks, over}
use Rattle.plain_machine.specs.Own.{own_answers}
use Rattle.plain_machine.specs.Events.{events}

abbrev pub state_in : State × Bool → State
state_in x = x.0

abbrev pub states_of : List (State × Bool) → List State
states_of marks = map state_in marks

-- counts that have the events of these states more
abbrev pub Counted : Tool → List (State × Bool) → Counts → Counts → Type 0
Counted tool marks old new = (before : List Event) → AreRows before old → AreRows (before ++ events tool marks) new

-- The whole run from s: the end, what was written, the map answers taken, which its states make them, and the rows.
pub record RunsFrom (w : Setting) (tool : Tool) (max fuel : ℕ) (s : State) (files before after : List ℕ) (end : End) (output : List ℕ) (counts : Counts) : Type 0 where
  pub marks : List (State × Bool)
  pub taken : List ℕ
  pub took : after ≡ before ++ taken
  pub own : taken ≡ own_answers w files (states_of marks)
  pub seen : marked max (run w fuel taken s) ≡ with_marks marks (over end output [])
  pub rows : AreRows (events tool marks) counts
