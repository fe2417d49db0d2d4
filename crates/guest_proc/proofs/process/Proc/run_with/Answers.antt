use Rattle.std.proofs.Common.{◌≡◌, ◌∙◌, ◌⊎◌, true, refl, sym, subst, inl, inr}
use Rattle.guest_proc.specs.Kept.{process_of, scheme_of}
use Rattle.guest_proc.specs.Process.{CameToWant, Advances, WantsMemory}
use Rattle.guest_proc.proofs.More.{came-to-want, keeps-all, keeps-both, made-both, made-none, one-more-on, ran-on, start-on, stop-on}
use Rattle.guest_proc.proofs.One.{any_err}
use Rattle.guest_proc.proofs.process.Proc.run_with.Goals as goal

pub loop-stop-init : goal.loop-stop-init
loop-stop-init g c = record {
  scheme = refl;
  spent = refl;
  entered = refl;
  went = start-on (scheme_of c.args.self.now.at c.args.self.now.limits) (process_of c.args.self.now.at (g.B.Book.ledger c.args.self.now.book));
  keeps = keeps-all (process_of c.args.self.now.at (g.B.Book.ledger c.args.self.now.book));
  made = made-none (g.B.Book.ledger c.args.self.now.book).counts.built c.args.steps.now (g.M.Maker.taken c.args.maker.now);
}

pub returns-in_err-stop-clause-wants : goal.returns-in_err-stop-clause-wants
returns-in_err-stop-clause-wants g c =
    let wants : (c.args.self.now.spent ≡ true) ⊎ CameToWant (scheme_of c.args.self.now.at c.args.self.now.limits) (process_of c.args.self.now.at (g.B.Book.ledger c.args.self.now.book)) = elim c.in_err-stop.ensures.wants [
      | inl spent ↦ inl (sym c.loop-stop.invariant.spent ∙ spent)
      | inr here ↦ inr (came-to-want (scheme_of c.args.self.now.at c.args.self.now.limits) (process_of c.args.self.now.at (g.B.Book.ledger c.args.self.now.book)) (process_of c.loop-stop.self.at (g.B.Book.ledger c.loop-stop.self.book)) c.loop-stop.invariant.went (subst (λ s. WantsMemory s (process_of c.loop-stop.self.at (g.B.Book.ledger c.loop-stop.self.book))) c.loop-stop.invariant.scheme here))
    ] in
    any_err c.from_residual.result _ wants

pub returns-in-Some-clause-blocks : goal.returns-in-Some-clause-blocks
returns-in-Some-clause-blocks g c =
    let here : Advances (scheme_of c.args.self.now.at c.args.self.now.limits) (process_of c.loop-stop.self.at (g.B.Book.ledger c.loop-stop.self.book)) (process_of c.advance.new.self.at (g.B.Book.ledger c.advance.new.self.book)) c.in_ok-stop.field-0 = subst (λ s. Advances s (process_of c.loop-stop.self.at (g.B.Book.ledger c.loop-stop.self.book)) (process_of c.advance.new.self.at (g.B.Book.ledger c.advance.new.self.book)) c.in_ok-stop.field-0) c.loop-stop.invariant.scheme c.in_ok-stop.ensures.ran in
    stop-on (scheme_of c.args.self.now.at c.args.self.now.limits) (process_of c.args.self.now.at (g.B.Book.ledger c.args.self.now.book)) (process_of c.loop-stop.self.at (g.B.Book.ledger c.loop-stop.self.book)) (process_of c.advance.new.self.at (g.B.Book.ledger c.advance.new.self.book)) c.in-Some.stop c.loop-stop.invariant.went (subst (λ o. Advances (scheme_of c.args.self.now.at c.args.self.now.limits) (process_of c.loop-stop.self.at (g.B.Book.ledger c.loop-stop.self.book)) (process_of c.advance.new.self.at (g.B.Book.ledger c.advance.new.self.book)) o) c.in-Some.is here)

pub returns-in-Some-clause-ran : goal.returns-in-Some-clause-ran
returns-in-Some-clause-ran g c =
    let here : Advances (scheme_of c.args.self.now.at c.args.self.now.limits) (process_of c.loop-stop.self.at (g.B.Book.ledger c.loop-stop.self.book)) (process_of c.advance.new.self.at (g.B.Book.ledger c.advance.new.self.book)) c.in_ok-stop.field-0 = subst (λ s. Advances s (process_of c.loop-stop.self.at (g.B.Book.ledger c.loop-stop.self.book)) (process_of c.advance.new.self.at (g.B.Book.ledger c.advance.new.self.book)) c.in_ok-stop.field-0) c.loop-stop.invariant.scheme c.in_ok-stop.ensures.ran in
    ran-on (scheme_of c.args.self.now.at c.args.self.now.limits) (process_of c.args.self.now.at (g.B.Book.ledger c.args.self.now.book)) (process_of c.advance.new.self.at (g.B.Book.ledger c.advance.new.self.book)) c.in-Some.stop (stop-on (scheme_of c.args.self.now.at c.args.self.now.limits) (process_of c.args.self.now.at (g.B.Book.ledger c.args.self.now.book)) (process_of c.loop-stop.self.at (g.B.Book.ledger c.loop-stop.self.book)) (process_of c.advance.new.self.at (g.B.Book.ledger c.advance.new.self.book)) c.in-Some.stop c.loop-stop.invariant.went (subst (λ o. Advances (scheme_of c.args.self.now.at c.args.self.now.limits) (process_of c.loop-stop.self.at (g.B.Book.ledger c.loop-stop.self.book)) (process_of c.advance.new.self.at (g.B.Book.ledger c.advance.new.self.book)) o) c.in-Some.is here))

pub returns-in-Some-clause-keeps : goal.returns-in-Some-clause-keeps
returns-in-Some-clause-keeps g c = keeps-both (process_of c.args.self.now.at (g.B.Book.ledger c.args.self.now.book)) (process_of c.loop-stop.self.at (g.B.Book.ledger c.loop-stop.self.book)) (process_of c.advance.new.self.at (g.B.Book.ledger c.advance.new.self.book)) c.loop-stop.invariant.keeps c.in_ok-stop.ensures.keeps

pub loop-stop-preserved : goal.loop-stop-preserved
loop-stop-preserved g c =
    let here : Advances (scheme_of c.args.self.now.at c.args.self.now.limits) (process_of c.loop-stop.self.at (g.B.Book.ledger c.loop-stop.self.book)) (process_of c.advance.new.self.at (g.B.Book.ledger c.advance.new.self.book)) c.in_ok-stop.field-0 = subst (λ s. Advances s (process_of c.loop-stop.self.at (g.B.Book.ledger c.loop-stop.self.book)) (process_of c.advance.new.self.at (g.B.Book.ledger c.advance.new.self.book)) c.in_ok-stop.field-0) c.loop-stop.invariant.scheme c.in_ok-stop.ensures.ran in
    record {
      scheme = c.advance.ensures.scheme ∙ c.loop-stop.invariant.scheme;
      spent = c.in_ok-stop.ensures.lasts ∙ c.loop-stop.invariant.spent;
      entered = c.advance.ensures.entered ∙ c.loop-stop.invariant.entered;
      went = one-more-on (scheme_of c.args.self.now.at c.args.self.now.limits) (process_of c.args.self.now.at (g.B.Book.ledger c.args.self.now.book)) (process_of c.loop-stop.self.at (g.B.Book.ledger c.loop-stop.self.book)) (process_of c.advance.new.self.at (g.B.Book.ledger c.advance.new.self.book)) c.loop-stop.invariant.went (subst (λ o. Advances (scheme_of c.args.self.now.at c.args.self.now.limits) (process_of c.loop-stop.self.at (g.B.Book.ledger c.loop-stop.self.book)) (process_of c.advance.new.self.at (g.B.Book.ledger c.advance.new.self.book)) o) c.in_default.is here);
      keeps = keeps-both (process_of c.args.self.now.at (g.B.Book.ledger c.args.self.now.book)) (process_of c.loop-stop.self.at (g.B.Book.ledger c.loop-stop.self.book)) (process_of c.advance.new.self.at (g.B.Book.ledger c.advance.new.self.book)) c.loop-stop.invariant.keeps c.in_ok-stop.ensures.keeps;
      made = made-both (g.B.Book.ledger c.args.self.now.book).counts.built (g.B.Book.ledger c.loop-stop.self.book).counts.built (g.B.Book.ledger c.advance.new.self.book).counts.built c.args.steps.now c.loop-stop.steps c.advance.new.steps
          (g.M.Maker.taken c.args.maker.now) (g.M.Maker.taken c.loop-stop.maker) (g.M.Maker.taken c.advance.new.maker) c.loop-stop.invariant.made c.in_ok-stop.ensures.made;
    }

pub returns-in_err-stop-clause-entered : goal.returns-in_err-stop-clause-entered
returns-in_err-stop-clause-entered g c = c.advance.ensures.entered ∙ c.loop-stop.invariant.entered

pub returns-in-Some-clause-entered : goal.returns-in-Some-clause-entered
returns-in-Some-clause-entered g c = c.advance.ensures.entered ∙ c.loop-stop.invariant.entered
