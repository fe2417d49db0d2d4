use Rattle.registry.proofs.Holding.{merges-keep}
use Rattle.registry.proofs.laws.merges_keep.Goals as goal

pub returns : goal.returns
returns c = merges-keep
