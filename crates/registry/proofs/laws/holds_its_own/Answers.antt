use Rattle.registry.proofs.Holding.{holds-its-own}
use Rattle.registry.proofs.laws.holds_its_own.Goals as goal

pub returns : goal.returns
returns c = holds-its-own
