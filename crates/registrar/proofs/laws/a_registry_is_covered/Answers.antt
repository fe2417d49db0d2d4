use Rattle.registrar.proofs.Counts.{registry-is-covered}
use Rattle.registrar.proofs.laws.a_registry_is_covered.Goals as goal

pub returns : goal.returns
returns c = registry-is-covered
