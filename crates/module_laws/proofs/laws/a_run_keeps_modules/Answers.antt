use Rattle.module_laws.proofs.Hosting.{flush-keeps-images, ledger-hosts, offer-keeps-images, result-hosts, run-hosts}
use Rattle.module_laws.proofs.laws.a_run_keeps_modules.Goals as goal

pub returns-clause-run : goal.returns-clause-run
returns-clause-run c = run-hosts

pub returns-clause-result : goal.returns-clause-result
returns-clause-result c = result-hosts

pub returns-clause-ledger : goal.returns-clause-ledger
returns-clause-ledger c = ledger-hosts

pub returns-clause-offer : goal.returns-clause-offer
returns-clause-offer c = offer-keeps-images

pub returns-clause-flush : goal.returns-clause-flush
returns-clause-flush c = flush-keeps-images
