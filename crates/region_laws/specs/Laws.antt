-- What system calls, placings and unplacings do to regions and to code.
use Rattle.std.specs.Prelude.{◌≡◌, ℕ, ◌%◌, Option, Ok}
use Rattle.plain_machine.specs.declared.cpu.Cpu.{Cpu}
use Rattle.plain_machine.specs.declared.io.Heap.{Heap}
use Rattle.plain_machine.specs.Memory.{Memory, IsMemory}
use Rattle.plain_machine.specs.Io.{Io}
use Rattle.plain_machine.specs.Calls.{called}
use Rattle.plain_machine.specs.Program.{Program, base_of, placed}
use Rattle.region_laws.specs.Heap.{HeapIsData}
use Rattle.region_laws.specs.Calls.{Leaves}
use Rattle.block_ledger.specs.Traced.{codes_of}
use Rattle.region_laws.specs.Standing.{AllStand, AreThere, StandOn}

-- A call keeps the regions that are not the heap's, the heap's as data, and all code but what a read overwrote.
abbrev pub CallsLeave : Type 0
CallsLeave = (cpu : Cpu) (m : Memory) (io : Io) → IsMemory m → HeapIsData io.heap m → cpu.pc % 4 ≡ 0 → Leaves cpu m io (called cpu m io)

-- the program was placed: its regions stand and its code is there, and so does all that stood
pub record Stand (program : Program) (base : ℕ) (m after : Memory) (heap : Option Heap) : Type 0 where
  pub stand : AllStand after heap (base_of program base) program.segments
  pub there : AreThere (codes_of program base) after
  pub inert : HeapIsData heap after
  pub others : StandOn m heap after heap

abbrev pub PlacedStand : Type 0
PlacedStand = (program : Program) (base : ℕ) (m after : Memory) (heap : Option Heap) → IsMemory after → HeapIsData heap m →
    placed program base m ≡ Ok after → Stand program base m after heap
