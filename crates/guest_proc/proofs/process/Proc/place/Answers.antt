use Rattle.std.proofs.Common.{◌≡◌, ap, subst, sym}
use Rattle.guest_proc.specs.Kept.{IsReady, process_of, scheme_of}
use Rattle.guest_proc.proofs.Coming.{clear-came, ready-came, scheme_in}
use Rattle.guest_proc.proofs.process.Proc.place.Goals as goal

pub come-requires : goal.come-requires
come-requires g c = record { inert = (c.args.self.now.ready c.if-self.false).inert }

pub invariant_of-self-2 : goal.invariant_of-self-2
invariant_of-self-2 g c = record {
  ready = λ e. subst (λ s. IsReady s (process_of c.come.new.at (g.B.Book.ledger c.args.self.now.book))) (ap (scheme_in c.args.self.now.limits.max c.args.self.now.limits.pool) (sym c.come.ensures.report))
      (ready-came c.args.self.now.entered (scheme_of c.args.self.now.at c.args.self.now.limits) c.args.elf.now c.args.base c.args.module c.args.file
      (process_of c.args.self.now.at (g.B.Book.ledger c.args.self.now.book)) (process_of c.come.new.at (g.B.Book.ledger c.args.self.now.book)) c.in_ok-placed.placed
      (c.args.self.now.ready c.if-self.false) (λ is. c.in_ok-placed.ensures.places is (g.B.Book.ledger c.args.self.now.book)) (λ is. c.in_ok-placed.ensures.enters is (g.B.Book.ledger c.args.self.now.book)) c.in_ok-placed.ensures.stands);
}

pub returns-clause-clear : goal.returns-clause-clear
returns-clause-clear g c =
    clear-came c.args.self.now.entered (scheme_of c.args.self.now.at c.args.self.now.limits) c.args.elf.now c.args.base c.args.module c.args.file
    (process_of c.args.self.now.at (g.B.Book.ledger c.args.self.now.book)) (process_of c.come.new.at (g.B.Book.ledger c.args.self.now.book)) c.in_ok-placed.placed
    (c.args.self.now.ready c.if-self.false) (λ is. c.in_ok-placed.ensures.places is (g.B.Book.ledger c.args.self.now.book)) (λ is. c.in_ok-placed.ensures.enters is (g.B.Book.ledger c.args.self.now.book)) c.in_ok-placed.ensures.stands

pub returns-clause-places : goal.returns-clause-places
returns-clause-places g c = λ is. c.in_ok-placed.ensures.places is (g.B.Book.ledger c.args.self.now.book)

pub returns-clause-enters : goal.returns-clause-enters
returns-clause-enters g c = λ is. c.in_ok-placed.ensures.enters is (g.B.Book.ledger c.args.self.now.book)
