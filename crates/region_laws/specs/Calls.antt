-- What a system call leaves, by what it comes to.
use Rattle.std.specs.Prelude.{◌≡◌, ◌%◌, true, false, Some, None}
use Rattle.plain_machine.specs.declared.cpu.Cpu.{Cpu}
use Rattle.plain_machine.specs.declared.io.Asked.{Asked}
use Rattle.plain_machine.specs.declared.io.Asked.TheVariants.{Back, Exit, Map, Unmap, Replace, OutputFull}
use Rattle.plain_machine.specs.Memory.{Memory}
use Rattle.plain_machine.specs.Io.{Io}
use Rattle.plain_machine.specs.Calls.{Reply, is_mapped}
use Rattle.engine.specs.Standing.{SameCode, IsStored}
use Rattle.region_laws.specs.Heap.{HeapIsData}
use Rattle.region_laws.specs.Standing.{StandOn}

-- a call changes code by a read alone, at the span that it tells
abbrev pub CodeBehind : Asked → Memory → Memory → Type 0
CodeBehind (Back None) old new = SameCode old new
CodeBehind (Back (Some span)) old new = IsStored span old new
CodeBehind (Exit status) old new = SameCode old new
CodeBehind (Map k) old new = SameCode old new
CodeBehind (Unmap k) old new = SameCode old new
CodeBehind (Replace k f) old new = SameCode old new
CodeBehind OutputFull old new = SameCode old new

-- a module that is to be mapped is not, and one that is to go is
abbrev pub AsksWell : Asked → Io → Type 0
AsksWell (Back span) io = Unit {0}
AsksWell (Exit status) io = Unit {0}
AsksWell (Map k) io = is_mapped io k ≡ false
AsksWell (Unmap k) io = is_mapped io k ≡ true
AsksWell (Replace k f) io = Unit {0}
AsksWell OutputFull io = Unit {0}

-- a call that ends the guest or asks for a module wrote nothing
abbrev pub OutputBehind : Asked → Io → Io → Type 0
OutputBehind (Back span) old new = Unit {0}
OutputBehind (Exit status) old new = new.output ≡ old.output
OutputBehind (Map k) old new = new.output ≡ old.output
OutputBehind (Unmap k) old new = new.output ≡ old.output
OutputBehind (Replace k f) old new = new.output ≡ old.output
OutputBehind OutputFull old new = new.output ≡ old.output

-- what there is before and behind a call
pub record CallLeaves (cpu : Cpu) (m : Memory) (io : Io) (asked : Asked) (after : Cpu) (now : Memory) (last : Io) : Type 0 where
  pub code : CodeBehind asked m now
  pub inert : HeapIsData last.heap now
  pub isa : after.isa ≡ cpu.isa
  pub aligned : after.pc % 4 ≡ 0
  pub mapped : last.mapped ≡ io.mapped
  pub stand : StandOn m io.heap now last.heap
  pub asks : AsksWell asked last
  pub output : OutputBehind asked io last

abbrev pub Leaves : Cpu → Memory → Io → Reply → Type 0
Leaves cpu m io (asked, after, now, last) = CallLeaves cpu m io asked after now last
