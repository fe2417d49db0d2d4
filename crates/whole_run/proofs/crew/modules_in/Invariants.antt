use Rattle.std.proofs.Common.{◌≡◌, take}
use Rattle.whole_run.proofs.crew.modules_in.Given as goal

abbrev pub invariant-loop-row : goal.invariant-loop-row
invariant-loop-row l = l.modules.items ≡ take l.row-index l.rows
