use Rattle.module_laws.proofs.Coming.{enter-hosts}
use Rattle.module_laws.proofs.Hosting.{bare-hosts}
use Rattle.module_laws.proofs.laws.a_guest_begins.Goals as goal

pub returns-clause-bare : goal.returns-clause-bare
returns-clause-bare c = bare-hosts

pub returns-clause-enter : goal.returns-clause-enter
returns-clause-enter c = enter-hosts
