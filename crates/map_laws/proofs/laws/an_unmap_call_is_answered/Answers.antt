use Rattle.map_laws.proofs.Answering.{unmap-leaves, one-more-leaves, unmap-is-answered}
use Rattle.map_laws.proofs.laws.an_unmap_call_is_answered.Goals as goal

pub returns-clause-leaves : goal.returns-clause-leaves
returns-clause-leaves c = unmap-leaves

pub returns-clause-more : goal.returns-clause-more
returns-clause-more c = one-more-leaves

pub returns-clause-answered : goal.returns-clause-answered
returns-clause-answered c = unmap-is-answered
