use Rattle.std.proofs.Common.{◌∷◌, [], arith}
use Rattle.plain_machine.specs.Machine.{State}
use Rattle.plain_run.specs.Plain.{one_module}
use Rattle.plain_run.specs.Ready.{state_of}
use Rattle.plain_run.proofs.Whole.{no-rows}
use Rattle.plain_run.specs.Steps.{Moves, Finishes}
use Rattle.plain_run.proofs.Progress.{progress-start, progress-moves, progress-finishes, progress-spent}
use Rattle.plain_run.proofs.run.run_from.Goals as goal

pub loop-process-init : goal.loop-process-init
loop-process-init c = record {
  progress = progress-start (one_module c.args.elfs.now c.args.base) c.args.setup.now.tool c.args.setup.now.max c.args.process.left (state_of c.args.process) (c.args.process.file ∷ []) c.args.process.report.counts c.args.maps.items
      (no-rows c.args.process.report.counts c.requires.empty);
  ready = c.requires.ready;
}

pub returns-in-Some-clause-runs : goal.returns-in-Some-clause-runs
returns-in-Some-clause-runs c =
    let w = one_module c.args.elfs.now c.args.base in
    let now : State = state_of c.loop-process.process in
    let next : State = state_of c.step.new.process in
    let p = c.loop-process.invariant.progress in
    let ends : Finishes w c.args.setup.now.tool c.args.setup.now.max c.loop-process.block p.region now next c.loop-process.process.report.counts c.step.new.process.report.counts (c.loop-process.process.file ∷ [])
    c.loop-process.maps.items c.step.new.maps.items c.in-Some.end =
    let h = c.in_ok-reached.ensures.steps p.region p.lies in rw c.in-Some.is at h in
    rw c.told.ensures
    (progress-finishes w c.args.setup.now.tool c.args.setup.now.max c.args.process.left (state_of c.args.process) (c.args.process.file ∷ []) c.loop-process.process.left c.loop-process.block now next
    c.loop-process.process.report.counts c.step.new.process.report.counts (c.loop-process.process.file ∷ []) c.args.maps.items c.loop-process.maps.items c.step.new.maps.items c.in-Some.end
    (omega arith) p ends)

pub returns-in-Some-clause-tool : goal.returns-in-Some-clause-tool
returns-in-Some-clause-tool c = rw c.told.ensures c.in_ok-reached.ensures.tool

pub loop-process-preserved : goal.loop-process-preserved
loop-process-preserved c =
    let w = one_module c.args.elfs.now c.args.base in
    let now : State = state_of c.loop-process.process in
    let next : State = state_of c.step.new.process in
    let p = c.loop-process.invariant.progress in
    let moves : Moves w c.args.setup.now.tool c.args.setup.now.max c.loop-process.block p.region now c.step.new.block next c.loop-process.process.report.counts c.step.new.process.report.counts
    (c.loop-process.process.file ∷ []) (c.step.new.process.file ∷ []) c.loop-process.maps.items c.step.new.maps.items =
    let h = c.in_ok-reached.ensures.steps p.region p.lies in rw c.in_default.is at h in
    record {
      progress = progress-moves w c.args.setup.now.tool c.args.setup.now.max c.args.process.left (state_of c.args.process) (c.args.process.file ∷ []) c.loop-process.process.left c.step.new.process.left
          c.loop-process.block now c.loop-process.process.report.counts c.step.new.process.report.counts (c.loop-process.process.file ∷ []) (c.step.new.process.file ∷ []) c.args.maps.items c.loop-process.maps.items c.step.new.maps.items
          c.step.new.block next (omega arith) (c.in_ok-reached.ensures.spends c.in_default.is) p moves;
      ready = c.in_ok-reached.ensures.ready c.in_default.is;
    }

pub returns-clause-runs : goal.returns-clause-runs
returns-clause-runs c =
    let w = one_module c.args.elfs.now c.args.base in
    let now : State = state_of c.loop-process.process in
    rw c.told-2.ensures
    (progress-spent w c.args.setup.now.tool c.args.setup.now.max c.args.process.left (state_of c.args.process) (c.args.process.file ∷ []) c.loop-process.process.left c.loop-process.block now
    c.loop-process.process.report.counts (c.loop-process.process.file ∷ []) c.args.maps.items c.loop-process.maps.items (omega arith) c.loop-process.invariant.progress)

pub returns-clause-tool : goal.returns-clause-tool
returns-clause-tool c = rw c.told-2.ensures c.loop-process.invariant.ready.tool
