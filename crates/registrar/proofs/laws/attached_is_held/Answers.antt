use Rattle.registrar.proofs.Counts.{attached-is-fresh, attached-is-held}
use Rattle.registrar.proofs.laws.attached_is_held.Goals as goal

pub returns-clause-held : goal.returns-clause-held
returns-clause-held c = attached-is-held

pub returns-clause-fresh : goal.returns-clause-fresh
returns-clause-fresh c = attached-is-fresh
