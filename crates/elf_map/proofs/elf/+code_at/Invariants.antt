use Rattle.std.proofs.Common.{length}
use Rattle.elf_map.proofs.elf.+code_at.Given as goal

abbrev pub decreases-code_at : goal.decreases-code_at
decreases-code_at l = length l.segments.now
