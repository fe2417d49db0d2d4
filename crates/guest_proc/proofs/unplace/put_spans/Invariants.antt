use Rattle.std.proofs.Common.{◌≡◌, ◌≤◌, length}
use Rattle.std.specs.Prelude.{take}
use Rattle.elf_map.specs.Program.{spans_of}
use Rattle.guest_proc.proofs.unplace.put_spans.Given as goal

abbrev pub invariant-loop-seg : goal.invariant-loop-seg
invariant-loop-seg l = take l.seg l.spans ≡ take l.seg (spans_of l.elf l.base)
