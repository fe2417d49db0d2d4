use Rattle.std.proofs.Common.{subst}
use Rattle.guest_proc.specs.Kept.{process_of, scheme_of}
use Rattle.guest_proc.specs.Process.{Advances}
use Rattle.guest_proc.proofs.More.{one-stops}
use Rattle.guest_proc.proofs.process.Proc.run_one.Goals as goal

pub returns-in-Some-clause-ran : goal.returns-in-Some-clause-ran
returns-in-Some-clause-ran g c =
    let ended = subst (λ o. Advances (scheme_of c.args.self.now.at c.args.self.now.limits) (process_of c.args.self.now.at (g.B.Book.ledger c.args.self.now.book)) (process_of c.advance.new.self.at (g.B.Book.ledger c.advance.new.self.book)) o) c.in-Some.is c.in_ok-stop.ensures.ran in
    one-stops (scheme_of c.args.self.now.at c.args.self.now.limits) (process_of c.args.self.now.at (g.B.Book.ledger c.args.self.now.book)) (process_of c.advance.new.self.at (g.B.Book.ledger c.advance.new.self.book)) c.in-Some.stop ended
