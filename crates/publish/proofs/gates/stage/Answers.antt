use Rattle.std.proofs.Common.{ap, Err}
use Rattle.publish.proofs.Stages.{stage_memory}
use Rattle.publish.proofs.gates.stage.Goals as goal

pub returns-in-Err-Memory-clause-stage : goal.returns-in-Err-Memory-clause-stage
returns-in-Err-Memory-clause-stage g c =
    stage_memory _ _ _ _ _ _ _ _ _ _ _ (ap Err c.in-Err-Memory.field-0-is) c.in-Err-Memory.ensures.stores c.in-Err-Memory.ensures.memory
