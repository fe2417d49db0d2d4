use Rattle.region_laws.proofs.Placing.{placed-stand}
use Rattle.region_laws.proofs.laws.placed_stand.Goals as goal

pub returns : goal.returns
returns c = placed-stand
