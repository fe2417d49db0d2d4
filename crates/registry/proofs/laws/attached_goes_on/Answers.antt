use Rattle.registry.proofs.Growing.{attaches-go-on}
use Rattle.registry.proofs.laws.attached_goes_on.Goals as goal

pub returns : goal.returns
returns c = attaches-go-on
