use Rattle.std.proofs.Common.{◌≡◌}
use Rattle.guest_proc.specs.Begun.{AreMade}
use Rattle.guest_proc.specs.Kept.{Keeps, process_of, scheme_of}
use Rattle.guest_proc.proofs.More.{WentOn}
use Rattle.guest_proc.proofs.process.Proc.run_with.Given as goal

abbrev pub invariant-loop-stop : goal.invariant-loop-stop
invariant-loop-stop g l = record {
  scheme : scheme_of l.self.at l.self.limits ≡ scheme_of l.fn.self.at l.fn.self.limits;
  spent : l.self.spent ≡ l.fn.self.spent;
  entered : l.self.entered ≡ l.fn.self.entered;
  went : WentOn (scheme_of l.fn.self.at l.fn.self.limits) (process_of l.fn.self.at (g.B.Book.ledger l.fn.self.book)) (process_of l.self.at (g.B.Book.ledger l.self.book));
  keeps : Keeps (process_of l.fn.self.at (g.B.Book.ledger l.fn.self.book)) (process_of l.self.at (g.B.Book.ledger l.self.book));
  made : AreMade (g.B.Book.ledger l.fn.self.book).counts.built (g.B.Book.ledger l.self.book).counts.built l.fn.steps l.steps (g.M.Maker.taken l.fn.maker) (g.M.Maker.taken l.maker);
}

abbrev pub decreases-loop-stop : goal.decreases-loop-stop
decreases-loop-stop g l = l.self.at.fuel
