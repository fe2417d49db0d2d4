use Rattle.fragment.proofs.Values.{none-built}
use Rattle.fragment.proofs.laws.none_is_built_where_none_can_stand.Goals as goal

pub returns : goal.returns
returns c = none-built
