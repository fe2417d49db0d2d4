use Rattle.registrar.proofs.Counts.{fresh-stays}
use Rattle.registrar.proofs.laws.fresh_stays.Goals as goal

pub returns : goal.returns
returns c = fresh-stays
