use Rattle.module_laws.proofs.Coming.{attach-hosts, codes-start, place-hosts}
use Rattle.module_laws.proofs.laws.a_module_comes.Goals as goal

pub returns-clause-place : goal.returns-clause-place
returns-clause-place c = place-hosts

pub returns-clause-attach : goal.returns-clause-attach
returns-clause-attach c = attach-hosts

pub returns-clause-starts : goal.returns-clause-starts
returns-clause-starts c = codes-start
