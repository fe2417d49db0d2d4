use Rattle.fragment.proofs.Alike.{congruence}
use Rattle.fragment.proofs.laws.congruence.Goals as goal

pub returns : goal.returns
returns c = congruence
