use Rattle.registry.proofs.Holding.{attaches-hold}
use Rattle.registry.proofs.laws.attached_is_held.Goals as goal

pub returns : goal.returns
returns c = attaches-hold
