use Rattle.fragment.proofs.Values.{own_size}
use Rattle.fragment.proofs.laws.own_size_is_enough.Goals as goal

pub returns : goal.returns
returns c = own_size
