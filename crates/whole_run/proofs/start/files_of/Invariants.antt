use Rattle.std.proofs.Common.{◌≡◌, map, take}
use Rattle.whole_run.proofs.start.files_of.Given as goal

abbrev pub invariant-loop-module : goal.invariant-loop-module
invariant-loop-module l = l.files.items ≡ map (λ m. m.file) (take l.module-index l.modules)
