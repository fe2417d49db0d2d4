use Rattle.guest_proc.specs.Kept.{scheme_of}
use Rattle.guest_proc.proofs.Starting.{starts_ready}
use Rattle.guest_proc.proofs.process.Proc.of.Goals as goal

pub invariant_of-result : goal.invariant_of-result
invariant_of-result g c = record { ready = λ e. starts_ready (scheme_of c.args.at c.args.limits) c.args.at.cpu c.args.at.mem c.args.at.io c.args.at.fuel c.args.at.report (g.B.Book.ledger c.args.book) c.requires.new c.requires.aligned c.requires.inert c.requires.empty c.requires.fuel }
