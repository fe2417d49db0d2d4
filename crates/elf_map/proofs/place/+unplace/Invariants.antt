use Rattle.std.proofs.Common.{length}
use Rattle.elf_map.proofs.place.+unplace.Given as goal

abbrev pub decreases-unplace : goal.decreases-unplace
decreases-unplace l = length l.segments.now
