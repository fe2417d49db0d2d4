use Rattle.std.proofs.Common.{subst, sym}
use Rattle.guest_proc.specs.Kept.{IsReady, process_of, scheme_of}
use Rattle.guest_proc.proofs.Attaching.{ready-flushed}
use Rattle.guest_proc.proofs.process.Proc.flush.Goals as goal

pub invariant_of-self : goal.invariant_of-self
invariant_of-self g c = record {
  ready = λ e. subst (λ l. IsReady (scheme_of c.args.self.now.at c.args.self.now.limits) (process_of c.args.self.now.at l)) (sym c.flush.ensures)
      (ready-flushed (scheme_of c.args.self.now.at c.args.self.now.limits) (process_of c.args.self.now.at (g.B.Book.ledger c.args.self.now.book)) (c.args.self.now.ready e));
}
