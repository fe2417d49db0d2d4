-- What the calls on ELF files answer.
use Rattle.std.specs.Prelude.{◌≡◌, ◌⊎◌, List, Some, None, Result, Ok, Err}
use Rattle.plain_machine.specs.declared.access.MemErr.{MemErr}
use Rattle.plain_machine.specs.declared.access.MemErr.TheVariants as memory
use Rattle.plain_machine.specs.Memory.{Memory}
use Rattle.plain_machine.specs.Program.{Program}
use Rattle.elf_map.specs.declared.error.ElfErr.{ElfErr}
use Rattle.elf_map.specs.declared.error.ElfErr.TheVariants as errors
use Rattle.elf_map.specs.Elf.{Rule, first_failing}

-- a test of rules answers the first that fails
abbrev pub Tests : List Rule → Result (Unit {0}) ElfErr → Type 0
Tests rules (Ok _) = first_failing rules ≡ None
Tests rules (Err e) = first_failing rules ≡ Some e

-- a file is refused as it must be, or read as it is; only for one that is taken may memory run out
abbrev pub Reads : Result Program ElfErr → Result Program ElfErr → Type 0
Reads (Err e) result = result ≡ Err e
Reads (Ok program) (Ok elf) = elf ≡ program
Reads (Ok program) (Err e) = e ≡ errors.Memory

-- segments are added as they must be; an error leaves the memory as it was, and memory may run out
abbrev pub Places : Memory → Result Memory MemErr → Result (Unit {0}) MemErr → Memory → Type 0
Places old made (Ok _) new = made ≡ Ok new
Places old made (Err e) new = ((e ≡ memory.Memory) ⊎ (made ≡ Err e)) × (new ≡ old)
