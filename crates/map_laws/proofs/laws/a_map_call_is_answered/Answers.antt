use Rattle.map_laws.proofs.Answering.{placed-attaches, one-more-attached, map-is-answered, map-is-refused, map-is-unknown}
use Rattle.map_laws.proofs.laws.a_map_call_is_answered.Goals as goal

pub returns-clause-placed : goal.returns-clause-placed
returns-clause-placed c = placed-attaches

pub returns-clause-attached : goal.returns-clause-attached
returns-clause-attached c = one-more-attached

pub returns-clause-answered : goal.returns-clause-answered
returns-clause-answered c = map-is-answered

pub returns-clause-refused : goal.returns-clause-refused
returns-clause-refused c = map-is-refused

pub returns-clause-unknown : goal.returns-clause-unknown
returns-clause-unknown c = map-is-unknown
