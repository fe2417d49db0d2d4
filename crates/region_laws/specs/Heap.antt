-- The heap's region.
use Rattle.std.specs.Prelude.{◌≡◌, ℕ, Bool, false, if◌then◌else◌, Option, Some, None}
use Rattle.plain_machine.specs.declared.io.Heap.{Heap}
use Rattle.plain_machine.specs.Region.{Area}
use Rattle.plain_machine.specs.Memory.{Memory, region_from}
use Rattle.plain_machine.specs.Calls.{is_empty}

-- whether a region may be executed, where it is there
abbrev pub runs_there : Option Area → Option Bool
runs_there None = None
runs_there (Some r) = Some r.flags.execute

abbrev pub heap_runs : Option Heap → Memory → Option Bool
heap_runs None m = Some false
heap_runs (Some heap) m = if is_empty heap then Some false else runs_there (region_from m heap.start)

-- a heap that is not empty has its region, which holds no code
abbrev pub HeapIsData : Option Heap → Memory → Type 0
HeapIsData heap m = heap_runs heap m ≡ Some false

-- where the heap's region starts, if it has one
abbrev pub heap_at : Option Heap → Option ℕ
heap_at None = None
heap_at (Some heap) = if is_empty heap then None else Some heap.start
