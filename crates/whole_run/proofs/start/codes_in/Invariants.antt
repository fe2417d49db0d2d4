use Rattle.std.proofs.Common.{◌≡◌, take}
use Rattle.elf_map.specs.Program.{texts_of}
use Rattle.whole_run.proofs.start.codes_in.Given as goal

abbrev pub invariant-loop-seg : goal.invariant-loop-seg
invariant-loop-seg l = l.codes.items ≡ take l.seg (texts_of l.elf)
