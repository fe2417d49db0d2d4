-- What a process keeps, and what of its modules a run keeps.
use Rattle.std.specs.Prelude.{◌≡◌, ℕ, ◌+◌, ◌%◌, ◌^◌, ◌<◌, ◌≤◌, Bool, true, false, option_map, Option, Some, None}
use Rattle.std.specs.FinMap as fin
use Rattle.cc_base.specs.Image.{Code}
use Rattle.probe_tools.specs.Rows.{count_at}
use Rattle.plain_machine.specs.Io.{Io}
use Rattle.plain_machine.specs.Calls.{is_mapped}
use Rattle.block_ledger.specs.Ledger.{Ledger, Segment}
use Rattle.block_ledger.specs.Traced.{Scheme}
use Rattle.region_laws.specs.Heap.{HeapIsData}
use Rattle.region_laws.specs.Standing.{StandOn}
use Rattle.guest_proc.specs.declared.stop.Stop.{Stop}
use Rattle.guest_proc.specs.declared.stop.Stop.TheVariants as stop
use Rattle.guest_proc.specs.Fresh.{AreFresh, AreMapped, AreOfUnits}
use Rattle.guest_proc.specs.declared.running.Running.{Running}
use Rattle.guest_proc.specs.declared.running.Limits.{Limits}
use Rattle.guest_proc.specs.Process.{Process, process}

abbrev pub process_of : Running → Ledger → Process
process_of r led = process r.cpu r.mem r.io r.fuel r.report led

abbrev pub scheme_of : Running → Limits → Scheme
scheme_of r limits = record { tool = r.report.tool; max = limits.max; pool = limits.pool }

-- between two blocks
pub record IsReady (scheme : Scheme) (p : Process) : Type 0 where
  pub aligned : p.state.cpu.pc % 4 ≡ 0
  -- each live fragment is the one that would be built
  pub fresh : AreFresh scheme.tool scheme.max p.state.cpu.isa p.state.memory p.ledger
  pub mapped : AreMapped p.state.memory p.ledger
  -- a live address of an attached unit which was not withdrawn has the unit's block
  pub units : AreOfUnits scheme.tool scheme.max p.state.cpu.isa p.ledger
  -- the heap's region holds no code
  pub inert : HeapIsData p.state.io.heap p.state.memory
  -- no count comes to its type's end
  pub small : (key : ℕ) → count_at p.report.counts key + p.fuel < 2 ^ 64
  pub few : p.ledger.counts.blocks + p.fuel < 2 ^ 64

-- ---- what a run keeps of the modules

-- the code of the segment of this number, where it is attached
abbrev pub image_at : Ledger → ℕ → Option Code
image_at led i = option_map (λ (x : Segment). x.image) (fin.get led.segments i)

pub record Keeps (old new : Process) : Type 0 where
  pub images : (i : ℕ) → image_at new.ledger i ≡ image_at old.ledger i
  pub mapped : new.state.io.mapped ≡ old.state.io.mapped
  pub isa : new.state.cpu.isa ≡ old.state.cpu.isa
  pub stand : StandOn old.state.memory old.state.io.heap new.state.memory new.state.io.heap

-- a module that is to be mapped is not, and one that is to go is
abbrev pub StopsWell : Option Stop → Io → Type 0
StopsWell None io = Unit {0}
StopsWell (Some (stop.Ended end)) io = Unit {0}
StopsWell (Some (stop.Map k)) io = is_mapped io k ≡ false
StopsWell (Some (stop.Unmap k)) io = is_mapped io k ≡ true
StopsWell (Some (stop.Replace k f)) io = Unit {0}
StopsWell (Some stop.PoolFull) io = Unit {0}
