-- What the probes of a block see, and count.
use Rattle.std.specs.Prelude.{◌≡◌, ℕ, ◌<◌, List, [], ◌∷◌, length, option_map, Option, Some, None}
use Rattle.std.specs.Option.{option_to_list}
use Rattle.std.specs.List.{Contains}
use Rattle.std.specs.FinMap as fin
use Rattle.rv_decode.specs.declared.ins.Ins.{Ins}
use Rattle.probe_tools.specs.declared.event.Event.{Event}
use Rattle.probe_tools.specs.declared.event.Event.TheVariants as events
use Rattle.probe_tools.specs.declared.probe.ProbeKind.{ProbeKind}
use Rattle.probe_tools.specs.declared.probe.ProbeKind.TheVariants as kinds
use Rattle.probe_tools.specs.Rows.{Counts, key_of, with_more}
use Rattle.plain_machine.specs.declared.cpu.Cpu.{Cpu}
use Rattle.plain_machine.specs.declared.cpu.Done.TheVariants as done
use Rattle.plain_machine.specs.Step.{access_of, target_of}
use Rattle.plain_machine.specs.Machine.{State}
use Rattle.plain_machine.specs.Events.{access_event, seen, events as events_of}
use Rattle.report.specs.Rows.{Rows}
use Rattle.fragment.specs.Parts.{Parts}
use Rattle.engine.specs.Words.{state_at, done_at, is_first, marks_before}

-- how many probes stand at a place
abbrev pub probe_count : Option ProbeKind → ℕ
probe_count None = 0
probe_count (Some kind) = 1

-- what a probe of this kind sees before an instruction
abbrev pub seen_by : ProbeKind → Cpu → Ins → Option Event
seen_by kinds.Block cpu i = Some (events.Block cpu.pc)
seen_by kinds.Call cpu i = option_map (events.Call cpu.pc) (target_of i cpu)
seen_by kinds.Load cpu i = option_map (access_event cpu.pc) (access_of i cpu)
seen_by kinds.Store cpu i = option_map (access_event cpu.pc) (access_of i cpu)

-- what is seen before an instruction, where a probe may stand
abbrev pub seen_with : Option ProbeKind → Cpu → Ins → List Event
seen_with None cpu i = []
seen_with (Some kind) cpu i = option_to_list (seen_by kind cpu i)

-- counts that have these events more
abbrev pub counting : List Event → Counts → Counts
counting [] counts = counts
counting (e ∷ es) counts = counting es (with_more (key_of e) 1 counts)

abbrev pub with_events : List Event → Rows → Rows
with_events es r = record r { counts = counting es r.counts }

-- one of the events has no row
pub record LacksRow (es : List Event) (counts : Counts) : Type 0 where
  pub event : Event
  pub comes : Contains es event
  pub no_row : fin.get counts (key_of event) ≡ None

-- From state s the first n words of the block were done, and each went on to the next. Before word number n an event
-- came that has no row.
pub record WantsRow (block : Parts) (n : ℕ) (s now : State) (old new : Rows) : Type 0 where
  pub some : n < length block.words
  pub went : (i : ℕ) → i < n → done_at block.words s i ≡ done.Next
  pub reached : now ≡ state_at block.words s n
  pub counted : new ≡ with_events (events_of old.tool (marks_before block.words s n)) old
  pub lacks : LacksRow (seen old.tool (state_at block.words s n, is_first n)) new.counts
