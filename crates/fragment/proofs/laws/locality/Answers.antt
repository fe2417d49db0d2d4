use Rattle.fragment.proofs.Alike.{locality}
use Rattle.fragment.proofs.laws.locality.Goals as goal

pub returns : goal.returns
returns c = locality
