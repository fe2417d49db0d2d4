use Rattle.module_laws.proofs.Going.{mapped-is-placed, unplace-hosts}
use Rattle.module_laws.proofs.laws.a_module_goes.Goals as goal

pub returns-clause-placed : goal.returns-clause-placed
returns-clause-placed c = mapped-is-placed

pub returns-clause-unplace : goal.returns-clause-unplace
returns-clause-unplace c = unplace-hosts
