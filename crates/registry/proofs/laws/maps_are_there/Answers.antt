use Rattle.registry.proofs.Files.{maps-are-there}
use Rattle.registry.proofs.laws.maps_are_there.Goals as goal

pub returns : goal.returns
returns c = maps-are-there
