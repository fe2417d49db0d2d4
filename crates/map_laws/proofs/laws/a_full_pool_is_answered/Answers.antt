use Rattle.map_laws.proofs.Roomy.{room-goes-on, room-is-there, offering-begins, one-more-offered, all-are-offered}
use Rattle.map_laws.proofs.laws.a_full_pool_is_answered.Goals as goal

pub returns-clause-goes : goal.returns-clause-goes
returns-clause-goes c = room-goes-on

pub returns-clause-there : goal.returns-clause-there
returns-clause-there c = room-is-there

pub returns-clause-begins : goal.returns-clause-begins
returns-clause-begins c = offering-begins

pub returns-clause-more : goal.returns-clause-more
returns-clause-more c = one-more-offered

pub returns-clause-made : goal.returns-clause-made
returns-clause-made c = all-are-offered
