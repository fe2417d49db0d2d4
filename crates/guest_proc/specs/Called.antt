-- What a system call comes to, for a process.
use Rattle.std.specs.Prelude.{◌≡◌, ℕ, ◌%◌, ◌<◌, Option, Some, None}
use Rattle.probe_tools.specs.declared.tool.Tool.{Tool}
use Rattle.plain_machine.specs.declared.ends.End.TheVariants as ends
use Rattle.plain_machine.specs.declared.ends.Kind.TheVariants as kinds
use Rattle.plain_machine.specs.declared.io.Asked.{Asked}
use Rattle.plain_machine.specs.declared.io.Asked.TheVariants as asked
use Rattle.report.specs.Rows.{Rows}
use Rattle.block_ledger.specs.Ledger.{Ledger, written}
use Rattle.block_ledger.specs.Traced.{Scheme, range_of}
use Rattle.region_laws.specs.Heap.{HeapIsData}
use Rattle.region_laws.specs.Standing.{StandOn}
use Rattle.guest_proc.specs.declared.stop.Stop.{Stop}
use Rattle.guest_proc.specs.declared.stop.Stop.TheVariants as stop
use Rattle.guest_proc.specs.Fresh.{AreFresh, AreMapped, SharesNoMore}
use Rattle.guest_proc.specs.Kept.{StopsWell}
use Rattle.guest_proc.specs.Process.{Asks, CallEnds, Process}

-- the blocks that a read met are withdrawn
abbrev pub told : Asked → Ledger → Ledger
told (asked.Back (Some span)) led = written (range_of span) led
told (asked.Back None) led = led
told (asked.Exit status) led = led
told (asked.Map k) led = led
told (asked.Unmap k) led = led
told (asked.Replace k f) led = led
told asked.OutputFull led = led

-- where it stops, for a call at pc
abbrev pub stop_for : ℕ → Asked → Option Stop
stop_for pc (asked.Back span) = None
stop_for pc (asked.Exit status) = Some (stop.Ended (ends.Exit status))
stop_for pc (asked.Map k) = Some (stop.Map k)
stop_for pc (asked.Unmap k) = Some (stop.Unmap k)
stop_for pc (asked.Replace k f) = Some (stop.Replace k f)
stop_for pc asked.OutputFull = Some (stop.Ended (ends.Fault kinds.Output pc))

-- A call was done: the run that came to it goes on or stops behind it, and what a process keeps it keeps.
pub record CallDone (old new : Process) (s : Option Stop) : Type 0 where
  pub ends : (scheme : Scheme) (p : Process) → Asks scheme p old → CallEnds scheme p new s
  pub fresh : (tool : Tool) (max : ℕ) → 0 < max → AreFresh tool max old.state.cpu.isa old.state.memory old.ledger → AreFresh tool max new.state.cpu.isa new.state.memory new.ledger
  pub mapped : AreMapped old.state.memory old.ledger → AreMapped new.state.memory new.ledger
  pub shares : SharesNoMore old.ledger new.ledger
  pub inert : HeapIsData new.state.io.heap new.state.memory
  pub aligned : new.state.cpu.pc % 4 ≡ 0
  pub segments : new.ledger.segments ≡ old.ledger.segments
  pub counts : new.ledger.counts ≡ old.ledger.counts
  pub modules : new.state.io.mapped ≡ old.state.io.mapped
  pub isa : new.state.cpu.isa ≡ old.state.cpu.isa
  pub stand : StandOn old.state.memory old.state.io.heap new.state.memory new.state.io.heap
  pub asks : StopsWell s new.state.io
