use Rattle.map_laws.proofs.Calling.{offers-none, partings-none, units-none}
use Rattle.map_laws.proofs.laws.other_requests_take_none.Goals as goal

pub returns-clause-offers : goal.returns-clause-offers
returns-clause-offers c = offers-none

pub returns-clause-partings : goal.returns-clause-partings
returns-clause-partings c = partings-none

pub returns-clause-units : goal.returns-clause-units
returns-clause-units c = units-none
