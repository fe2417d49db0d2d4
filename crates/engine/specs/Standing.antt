-- Blocks in memory.
use Rattle.std.specs.Prelude.{◌≡◌, ℕ, ◌<◌, Bool, List, find, length, Option, Some, None}
use Rattle.cc_base.specs.declared.span.Span.{Span}
use Rattle.rv_decode.specs.declared.ins.Isa.{Isa}
use Rattle.probe_tools.specs.declared.tool.Tool.{Tool}
use Rattle.plain_machine.specs.declared.cpu.Cpu.{Cpu}
use Rattle.plain_machine.specs.Region.{Area}
use Rattle.plain_machine.specs.Memory.{Memory, IsMemory, code_of, has_code, put, starts_at}
use Rattle.plain_machine.specs.Io.{Io}
use Rattle.plain_machine.specs.Machine.{State}
use Rattle.fragment.specs.Parts.{Parts}
use Rattle.fragment.specs.Build.{IsFresh}
use Rattle.engine.specs.declared.block.Left.{Left}
use Rattle.engine.specs.declared.block.Left.TheVariants as left

abbrev pub state : Cpu → Memory → Io → State
state cpu m io = record { cpu = cpu; memory = m; io = io }

-- the block is fresh in the code that this memory has at its address
pub record StandsIn (m : Memory) (isa : Isa) (tool : Tool) (max : ℕ) (block : Parts) : Type 0 where
  pub memory : IsMemory m
  pub region : Area
  pub here : find (has_code block.address 1) m ≡ Some region
  pub fresh : IsFresh (code_of region) isa tool max block

-- ---- what a block leaves as it was

-- at each address the same code
abbrev pub SameCode : Memory → Memory → Type 0
SameCode old new = (a : ℕ) → find (has_code a 1) new ≡ find (has_code a 1) old

-- the last thing that was done is a store at this span; before it the code was as it had been
pub record IsStored (span : Span) (old new : Memory) : Type 0 where
  pub before : Memory
  pub same : SameCode old before
  pub bytes : List ℕ
  pub some : 0 < length bytes
  pub size : length bytes ≡ span.len
  pub made : new ≡ put span.start bytes before

abbrev pub CodeAfter : Left → Memory → Memory → Type 0
CodeAfter (left.Exit e) old new = SameCode old new
CodeAfter left.Asked old new = SameCode old new
CodeAfter (left.Touched span) old new = IsStored span old new
CodeAfter (left.Fault kind) old new = SameCode old new
CodeAfter left.Fuel old new = SameCode old new

-- whether a region may be executed, and how long it is, where there is one
abbrev pub shape : Option Area → Option (Bool × ℕ)
shape None = None
shape (Some r) = Some (r.flags.execute, length r.bytes)

-- no region moves, is made longer or shorter, or becomes code
abbrev pub SameRegions : Memory → Memory → Type 0
SameRegions old new = (start : ℕ) → shape (find (starts_at start) new) ≡ shape (find (starts_at start) old)
