use Rattle.std.proofs.Common.{take}
use Rattle.host.proofs.Programs.{AreTaken}
use Rattle.host.proofs.prepare.elfs_in.Given as goal

abbrev pub invariant-loop-i : goal.invariant-loop-i
invariant-loop-i l = AreTaken (take l.i l.names) (take l.i l.contents) l.elfs.items
