use Rattle.registrar.proofs.Counts.{covered-let-go, covered-stays}
use Rattle.registrar.proofs.laws.covered_stays.Goals as goal

pub returns-clause-others : goal.returns-clause-others
returns-clause-others c = covered-stays

pub returns-clause-detached : goal.returns-clause-detached
returns-clause-detached c = covered-let-go
