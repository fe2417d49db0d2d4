use Rattle.registry.proofs.Holding.{dues-may-be-answered}
use Rattle.registry.proofs.laws.dues_may_be_answered.Goals as goal

pub returns : goal.returns
returns c = dues-may-be-answered
