use Rattle.publish.proofs.Stages.{closes_not, closes_absent, closes_opened}
use Rattle.publish.proofs.gates.shut.Goals as goal

pub returns-in-Closed-clause-closes : goal.returns-in-Closed-clause-closes
returns-in-Closed-clause-closes g c = closes_not c.args.door c.in-Closed.is _ _ _ _ _ _

pub returns-in-Absent-clause-closes : goal.returns-in-Absent-clause-closes
returns-in-Absent-clause-closes g c = closes_absent c.args.door c.in-Absent.is _ _ _ _ _ _ _ _ _ c.close_gate.ensures.stage

pub returns-in-Opened-clause-closes : goal.returns-in-Opened-clause-closes
returns-in-Opened-clause-closes g c = closes_opened c.args.door c.in-Opened.is _ _ _ _ _ _ _ _ _ c.close_gate-in-Opened.ensures.stage
