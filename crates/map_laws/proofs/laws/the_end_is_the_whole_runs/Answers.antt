use Rattle.map_laws.proofs.Whole.{end-is-own, end-is-whole}
use Rattle.map_laws.proofs.laws.the_end_is_the_whole_runs.Goals as goal

pub returns-clause-whole : goal.returns-clause-whole
returns-clause-whole c = end-is-whole

pub returns-clause-own : goal.returns-clause-own
returns-clause-own c = end-is-own
