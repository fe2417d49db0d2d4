use Rattle.std.proofs.Common.{◌∷◌, []}
use Rattle.plain_run.specs.Plain.{one_module}
use Rattle.plain_run.specs.Ready.{IsReady, state_of}
use Rattle.plain_run.proofs.Progress.{Progress}
use Rattle.plain_run.proofs.run.run_from.Given as goal

abbrev pub invariant-loop-process : goal.invariant-loop-process
invariant-loop-process l = record {
  progress : Progress (one_module l.elfs l.base) l.setup.tool l.setup.max l.fn.process.left (state_of l.fn.process) (l.fn.process.file ∷ []) l.process.left l.block (state_of l.process) l.process.report.counts (l.process.file ∷ []) l.fn.maps.items l.maps.items;
  ready : IsReady l.elfs l.base l.setup.tool l.process;
}

abbrev pub decreases-loop-process : goal.decreases-loop-process
decreases-loop-process l = l.process.left
