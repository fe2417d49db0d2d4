use Rattle.publish.proofs.Stages.{came, runs_closed, runs_filled, runs_opening}
use Rattle.publish.proofs.gates.run_stages.Goals as goal

pub returns-in_err-shut-clause-runs : goal.returns-in_err-shut-clause-runs
returns-in_err-shut-clause-runs g c =
    runs_closed c.from_residual.result _ (came _ _ c.from_residual.ensures) _ _ _ _ _ _ _ _ _ _ _ _ c.in_err-shut.ensures.cause c.in_err-shut.ensures.worn c.in_err-shut.ensures.closes

pub returns-in_err-fill-clause-runs : goal.returns-in_err-fill-clause-runs
returns-in_err-fill-clause-runs g c =
    runs_filled c.from_residual-in_err-fill.result _ (came _ _ c.from_residual-in_err-fill.ensures) _ _ _ _ _ _ _ _ _ _ _ _ _ _ _
    c.in_err-fill.ensures.cause c.in_err-fill.ensures.worn c.in_ok-shut.ensures.closes c.in_err-fill.ensures.stage

pub returns-clause-runs : goal.returns-clause-runs
returns-clause-runs g c =
    runs_opening c.open_gate.result _ _ _ _ _ _ _ _ _ _ _ _ _ _ _ _ _ _ c.open_gate.ensures.cause c.open_gate.ensures.worn c.in_ok-shut.ensures.closes c.in_ok-fill.ensures.stage c.open_gate.ensures.stage
