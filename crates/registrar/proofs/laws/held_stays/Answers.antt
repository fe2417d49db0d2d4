use Rattle.registrar.proofs.Counts.{held-stays}
use Rattle.registrar.proofs.laws.held_stays.Goals as goal

pub returns : goal.returns
returns c = held-stays
