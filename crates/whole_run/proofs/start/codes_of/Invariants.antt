use Rattle.std.proofs.Common.{◌≡◌, map, take}
use Rattle.elf_map.specs.Program.{texts_of}
use Rattle.whole_run.proofs.start.codes_of.Given as goal

abbrev pub invariant-loop-elf : goal.invariant-loop-elf
invariant-loop-elf l = l.codes.items ≡ map texts_of (take l.elf-index l.elfs)
