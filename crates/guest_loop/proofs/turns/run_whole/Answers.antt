use Rattle.std.proofs.Common.{◌≡◌, [], true, false, refl, sym, ◌∙◌, subst}
use Rattle.std.specs.FinMap as fin
use Rattle.plain_machine.specs.declared.ends.End.TheVariants as ends
use Rattle.guest_proc.specs.Kept.{process_of, scheme_of}
use Rattle.guest_answers.specs.Plan.{caller_of, setting_of}
use Rattle.guest_answers.specs.Desk.{desk_of}
use Rattle.guest_answers.specs.Begin.{Begins, CannotBegin, Starts}
use Rattle.guest_answers.specs.Room.{PartsAll}
use Rattle.guest_answers.proofs.Growing.{grows-on}
use Rattle.guest_answers.proofs.Walking.{fits-now}
use Rattle.guest_loop.specs.Run.{RunsOut}
use Rattle.guest_loop.proofs.Ending.{begun-isa, unplaced-whole, whole-from}
use Rattle.guest_loop.proofs.Turning.{built-at, isa-keeps, kept-at}
use Rattle.guest_loop.proofs.turns.run_whole.Goals as goal

pub returns-then-not-branch-clause-whole : goal.returns-then-not-branch-clause-whole
returns-then-not-branch-clause-whole g c =
    let refused : CannotBegin c.args.plan.now (caller_of c.args.plan.now c.args.desk.now.number c.args.desk.now.recipe) c.args.module (desk_of (process_of c.args.desk.now.guest.at (g.B.Book.ledger c.args.desk.now.guest.book)) (g.R.Registrar.holder c.args.registrar.now).own c.args.desk.now.ages c.args.desk.now.files.items c.args.desk.now.marks.items) (desk_of (process_of c.begin.new.desk.guest.at (g.B.Book.ledger c.begin.new.desk.guest.book)) (g.R.Registrar.holder c.begin.new.registrar).own c.begin.new.desk.ages c.begin.new.desk.files.items c.begin.new.desk.marks.items) = subst (Starts c.args.plan.now (scheme_of c.args.desk.now.guest.at c.args.desk.now.guest.limits) (caller_of c.args.plan.now c.args.desk.now.number c.args.desk.now.recipe) c.args.module (desk_of (process_of c.args.desk.now.guest.at (g.B.Book.ledger c.args.desk.now.guest.book)) (g.R.Registrar.holder c.args.registrar.now).own c.args.desk.now.ages c.args.desk.now.files.items c.args.desk.now.marks.items) (desk_of (process_of c.begin.new.desk.guest.at (g.B.Book.ledger c.begin.new.desk.guest.book)) (g.R.Registrar.holder c.begin.new.registrar).own c.begin.new.desk.ages c.begin.new.desk.files.items c.begin.new.desk.marks.items)) c.if-not-branch.true c.in_ok-begin.ensures.starts in
    unplaced-whole c.args.plan.now (scheme_of c.args.desk.now.guest.at c.args.desk.now.guest.limits) (caller_of c.args.plan.now c.args.desk.now.number c.args.desk.now.recipe) c.args.module (desk_of (process_of c.args.desk.now.guest.at (g.B.Book.ledger c.args.desk.now.guest.book)) (g.R.Registrar.holder c.args.registrar.now).own c.args.desk.now.ages c.args.desk.now.files.items c.args.desk.now.marks.items) (desk_of (process_of c.begin.new.desk.guest.at (g.B.Book.ledger c.begin.new.desk.guest.book)) (g.R.Registrar.holder c.begin.new.registrar).own c.begin.new.desk.ages c.begin.new.desk.files.items c.begin.new.desk.marks.items) refused

pub returns-then-not-branch-clause-even : goal.returns-then-not-branch-clause-even
returns-then-not-branch-clause-even g c = c.in_ok-begin.ensures.even c.if-not-branch.true

pub run_out-requires : goal.run_out-requires
run_out-requires g c =
    let begins : Begins c.args.plan.now (scheme_of c.args.desk.now.guest.at c.args.desk.now.guest.limits) (caller_of c.args.plan.now c.args.desk.now.number c.args.desk.now.recipe) c.args.module (desk_of (process_of c.args.desk.now.guest.at (g.B.Book.ledger c.args.desk.now.guest.book)) (g.R.Registrar.holder c.args.registrar.now).own c.args.desk.now.ages c.args.desk.now.files.items c.args.desk.now.marks.items) (desk_of (process_of c.begin.new.desk.guest.at (g.B.Book.ledger c.begin.new.desk.guest.book)) (g.R.Registrar.holder c.begin.new.registrar).own c.begin.new.desk.ages c.begin.new.desk.files.items c.begin.new.desk.marks.items) = subst (Starts c.args.plan.now (scheme_of c.args.desk.now.guest.at c.args.desk.now.guest.limits) (caller_of c.args.plan.now c.args.desk.now.number c.args.desk.now.recipe) c.args.module (desk_of (process_of c.args.desk.now.guest.at (g.B.Book.ledger c.args.desk.now.guest.book)) (g.R.Registrar.holder c.args.registrar.now).own c.args.desk.now.ages c.args.desk.now.files.items c.args.desk.now.marks.items) (desk_of (process_of c.begin.new.desk.guest.at (g.B.Book.ledger c.begin.new.desk.guest.book)) (g.R.Registrar.holder c.begin.new.registrar).own c.begin.new.desk.ages c.begin.new.desk.files.items c.begin.new.desk.marks.items)) c.if-not-branch.false c.in_ok-begin.ensures.starts in
    record {
      fits = fits-now c.args.plan.now (caller_of c.args.plan.now c.args.desk.now.number c.args.desk.now.recipe) (caller_of c.args.plan.now c.begin.new.desk.number c.begin.new.desk.recipe) (g.R.Registrar.holder c.args.registrar.now).opening (g.R.Registrar.holder c.begin.new.registrar).opening c.begin.ensures.caller c.begin.ensures.opening c.requires.fits;
      built = built-at (caller_of c.args.plan.now c.args.desk.now.number c.args.desk.now.recipe) (caller_of c.args.plan.now c.begin.new.desk.number c.begin.new.desk.recipe) (scheme_of c.args.desk.now.guest.at c.args.desk.now.guest.limits) (scheme_of c.begin.new.desk.guest.at c.begin.new.desk.guest.limits) (process_of c.begin.new.desk.guest.at (g.B.Book.ledger c.begin.new.desk.guest.book)) c.begin.ensures.caller c.begin.ensures.scheme (isa-keeps (caller_of c.args.plan.now c.args.desk.now.number c.args.desk.now.recipe) (scheme_of c.args.desk.now.guest.at c.args.desk.now.guest.limits) (process_of c.args.desk.now.guest.at (g.B.Book.ledger c.args.desk.now.guest.book)) (process_of c.begin.new.desk.guest.at (g.B.Book.ledger c.begin.new.desk.guest.book)) (begun-isa c.args.plan.now (scheme_of c.args.desk.now.guest.at c.args.desk.now.guest.limits) (caller_of c.args.plan.now c.args.desk.now.number c.args.desk.now.recipe) c.args.module (desk_of (process_of c.args.desk.now.guest.at (g.B.Book.ledger c.args.desk.now.guest.book)) (g.R.Registrar.holder c.args.registrar.now).own c.args.desk.now.ages c.args.desk.now.files.items c.args.desk.now.marks.items) (desk_of (process_of c.begin.new.desk.guest.at (g.B.Book.ledger c.begin.new.desk.guest.book)) (g.R.Registrar.holder c.begin.new.registrar).own c.begin.new.desk.ages c.begin.new.desk.files.items c.begin.new.desk.marks.items) begins) c.requires.built);
      kept = kept-at c.args.plan.now (caller_of c.args.plan.now c.args.desk.now.number c.args.desk.now.recipe) (caller_of c.args.plan.now c.begin.new.desk.number c.begin.new.desk.recipe) [] (desk_of (process_of c.begin.new.desk.guest.at (g.B.Book.ledger c.begin.new.desk.guest.book)) (g.R.Registrar.holder c.begin.new.registrar).own c.begin.new.desk.ages c.begin.new.desk.files.items c.begin.new.desk.marks.items) c.begin.ensures.caller (c.in_ok-begin.ensures.kept c.if-not-branch.false);
      run = c.in_ok-begin.ensures.entered c.if-not-branch.false;
    }

pub returns-in_err-end-clause-grows : goal.returns-in_err-end-clause-grows
returns-in_err-end-clause-grows g c = grows-on (caller_of c.args.plan.now c.args.desk.now.number c.args.desk.now.recipe) (caller_of c.args.plan.now c.begin.new.desk.number c.begin.new.desk.recipe) (g.R.Registrar.holder c.args.registrar.now) (g.R.Registrar.holder c.begin.new.registrar) (g.R.Registrar.holder c.run_out.new.registrar) c.begin.ensures.caller c.begin.ensures.grows c.run_out.ensures.grows

pub returns-in_err-close-clause-grows : goal.returns-in_err-close-clause-grows
returns-in_err-close-clause-grows g c = grows-on (caller_of c.args.plan.now c.args.desk.now.number c.args.desk.now.recipe) (caller_of c.args.plan.now c.run_out.new.desk.number c.run_out.new.desk.recipe) (g.R.Registrar.holder c.args.registrar.now) (g.R.Registrar.holder c.run_out.new.registrar) (g.R.Registrar.holder c.close.new.registrar) (c.run_out.ensures.caller ∙ c.begin.ensures.caller) (grows-on (caller_of c.args.plan.now c.args.desk.now.number c.args.desk.now.recipe) (caller_of c.args.plan.now c.begin.new.desk.number c.begin.new.desk.recipe) (g.R.Registrar.holder c.args.registrar.now) (g.R.Registrar.holder c.begin.new.registrar) (g.R.Registrar.holder c.run_out.new.registrar) c.begin.ensures.caller c.begin.ensures.grows c.run_out.ensures.grows) c.close.ensures.grows

pub returns-clause-grows : goal.returns-clause-grows
returns-clause-grows g c = grows-on (caller_of c.args.plan.now c.args.desk.now.number c.args.desk.now.recipe) (caller_of c.args.plan.now c.run_out.new.desk.number c.run_out.new.desk.recipe) (g.R.Registrar.holder c.args.registrar.now) (g.R.Registrar.holder c.run_out.new.registrar) (g.R.Registrar.holder c.close.new.registrar) (c.run_out.ensures.caller ∙ c.begin.ensures.caller) (grows-on (caller_of c.args.plan.now c.args.desk.now.number c.args.desk.now.recipe) (caller_of c.args.plan.now c.begin.new.desk.number c.begin.new.desk.recipe) (g.R.Registrar.holder c.args.registrar.now) (g.R.Registrar.holder c.begin.new.registrar) (g.R.Registrar.holder c.run_out.new.registrar) c.begin.ensures.caller c.begin.ensures.grows c.run_out.ensures.grows) c.close.ensures.grows

pub close-requires : goal.close-requires
close-requires g c = record {
  fits = fits-now c.args.plan.now (caller_of c.args.plan.now c.args.desk.now.number c.args.desk.now.recipe) (caller_of c.args.plan.now c.run_out.new.desk.number c.run_out.new.desk.recipe) (g.R.Registrar.holder c.args.registrar.now).opening (g.R.Registrar.holder c.run_out.new.registrar).opening (c.run_out.ensures.caller ∙ c.begin.ensures.caller) (c.run_out.ensures.opening ∙ c.begin.ensures.opening) c.requires.fits;
  built = built-at (caller_of c.args.plan.now c.begin.new.desk.number c.begin.new.desk.recipe) (caller_of c.args.plan.now c.run_out.new.desk.number c.run_out.new.desk.recipe) (scheme_of c.begin.new.desk.guest.at c.begin.new.desk.guest.limits) (scheme_of c.run_out.new.desk.guest.at c.run_out.new.desk.guest.limits) (process_of c.run_out.new.desk.guest.at (g.B.Book.ledger c.run_out.new.desk.guest.book)) c.run_out.ensures.caller c.run_out.ensures.scheme c.in_ok-end.ensures.built;
  kept = kept-at c.args.plan.now (caller_of c.args.plan.now c.begin.new.desk.number c.begin.new.desk.recipe) (caller_of c.args.plan.now c.run_out.new.desk.number c.run_out.new.desk.recipe) [] (desk_of (process_of c.run_out.new.desk.guest.at (g.B.Book.ledger c.run_out.new.desk.guest.book)) (g.R.Registrar.holder c.run_out.new.registrar).own c.run_out.new.desk.ages c.run_out.new.desk.files.items c.run_out.new.desk.marks.items) c.run_out.ensures.caller c.in_ok-end.ensures.kept;
}

pub returns-clause-whole : goal.returns-clause-whole
returns-clause-whole g c =
    let begins : Begins c.args.plan.now (scheme_of c.args.desk.now.guest.at c.args.desk.now.guest.limits) (caller_of c.args.plan.now c.args.desk.now.number c.args.desk.now.recipe) c.args.module (desk_of (process_of c.args.desk.now.guest.at (g.B.Book.ledger c.args.desk.now.guest.book)) (g.R.Registrar.holder c.args.registrar.now).own c.args.desk.now.ages c.args.desk.now.files.items c.args.desk.now.marks.items) (desk_of (process_of c.begin.new.desk.guest.at (g.B.Book.ledger c.begin.new.desk.guest.book)) (g.R.Registrar.holder c.begin.new.registrar).own c.begin.new.desk.ages c.begin.new.desk.files.items c.begin.new.desk.marks.items) = subst (Starts c.args.plan.now (scheme_of c.args.desk.now.guest.at c.args.desk.now.guest.limits) (caller_of c.args.plan.now c.args.desk.now.number c.args.desk.now.recipe) c.args.module (desk_of (process_of c.args.desk.now.guest.at (g.B.Book.ledger c.args.desk.now.guest.book)) (g.R.Registrar.holder c.args.registrar.now).own c.args.desk.now.ages c.args.desk.now.files.items c.args.desk.now.marks.items) (desk_of (process_of c.begin.new.desk.guest.at (g.B.Book.ledger c.begin.new.desk.guest.book)) (g.R.Registrar.holder c.begin.new.registrar).own c.begin.new.desk.ages c.begin.new.desk.files.items c.begin.new.desk.marks.items)) c.if-not-branch.false c.in_ok-begin.ensures.starts in
    let out : RunsOut (setting_of c.args.plan.now) (scheme_of c.args.desk.now.guest.at c.args.desk.now.guest.limits) (caller_of c.args.plan.now c.args.desk.now.number c.args.desk.now.recipe) (desk_of (process_of c.begin.new.desk.guest.at (g.B.Book.ledger c.begin.new.desk.guest.book)) (g.R.Registrar.holder c.begin.new.registrar).own c.begin.new.desk.ages c.begin.new.desk.files.items c.begin.new.desk.marks.items) (desk_of (process_of c.run_out.new.desk.guest.at (g.B.Book.ledger c.run_out.new.desk.guest.book)) (g.R.Registrar.holder c.run_out.new.registrar).own c.run_out.new.desk.ages c.run_out.new.desk.files.items c.run_out.new.desk.marks.items) c.in_ok-end.end = subst (λ x. RunsOut (setting_of c.args.plan.now) (scheme_of c.args.desk.now.guest.at c.args.desk.now.guest.limits) x (desk_of (process_of c.begin.new.desk.guest.at (g.B.Book.ledger c.begin.new.desk.guest.book)) (g.R.Registrar.holder c.begin.new.registrar).own c.begin.new.desk.ages c.begin.new.desk.files.items c.begin.new.desk.marks.items) (desk_of (process_of c.run_out.new.desk.guest.at (g.B.Book.ledger c.run_out.new.desk.guest.book)) (g.R.Registrar.holder c.run_out.new.registrar).own c.run_out.new.desk.ages c.run_out.new.desk.files.items c.run_out.new.desk.marks.items) c.in_ok-end.end) c.begin.ensures.caller (subst (λ s. RunsOut (setting_of c.args.plan.now) s (caller_of c.args.plan.now c.begin.new.desk.number c.begin.new.desk.recipe) (desk_of (process_of c.begin.new.desk.guest.at (g.B.Book.ledger c.begin.new.desk.guest.book)) (g.R.Registrar.holder c.begin.new.registrar).own c.begin.new.desk.ages c.begin.new.desk.files.items c.begin.new.desk.marks.items) (desk_of (process_of c.run_out.new.desk.guest.at (g.B.Book.ledger c.run_out.new.desk.guest.book)) (g.R.Registrar.holder c.run_out.new.registrar).own c.run_out.new.desk.ages c.run_out.new.desk.files.items c.run_out.new.desk.marks.items) c.in_ok-end.end) c.begin.ensures.scheme c.in_ok-end.ensures.out) in
    let parts : PartsAll (caller_of c.args.plan.now c.args.desk.now.number c.args.desk.now.recipe) (fin.keys (process_of c.run_out.new.desk.guest.at (g.B.Book.ledger c.run_out.new.desk.guest.book)).ledger.segments) (desk_of (process_of c.run_out.new.desk.guest.at (g.B.Book.ledger c.run_out.new.desk.guest.book)) (g.R.Registrar.holder c.run_out.new.registrar).own c.run_out.new.desk.ages c.run_out.new.desk.files.items c.run_out.new.desk.marks.items) (desk_of (process_of c.close.new.desk.guest.at (g.B.Book.ledger c.close.new.desk.guest.book)) (g.R.Registrar.holder c.close.new.registrar).own c.close.new.desk.ages c.close.new.desk.files.items c.close.new.desk.marks.items) = subst (λ x. PartsAll x (fin.keys (process_of c.run_out.new.desk.guest.at (g.B.Book.ledger c.run_out.new.desk.guest.book)).ledger.segments) (desk_of (process_of c.run_out.new.desk.guest.at (g.B.Book.ledger c.run_out.new.desk.guest.book)) (g.R.Registrar.holder c.run_out.new.registrar).own c.run_out.new.desk.ages c.run_out.new.desk.files.items c.run_out.new.desk.marks.items) (desk_of (process_of c.close.new.desk.guest.at (g.B.Book.ledger c.close.new.desk.guest.book)) (g.R.Registrar.holder c.close.new.registrar).own c.close.new.desk.ages c.close.new.desk.files.items c.close.new.desk.marks.items)) (c.run_out.ensures.caller ∙ c.begin.ensures.caller) c.in_ok-close.ensures.parts in
    whole-from c.args.plan.now (scheme_of c.args.desk.now.guest.at c.args.desk.now.guest.limits) (caller_of c.args.plan.now c.args.desk.now.number c.args.desk.now.recipe) c.args.module (desk_of (process_of c.args.desk.now.guest.at (g.B.Book.ledger c.args.desk.now.guest.book)) (g.R.Registrar.holder c.args.registrar.now).own c.args.desk.now.ages c.args.desk.now.files.items c.args.desk.now.marks.items) (desk_of (process_of c.begin.new.desk.guest.at (g.B.Book.ledger c.begin.new.desk.guest.book)) (g.R.Registrar.holder c.begin.new.registrar).own c.begin.new.desk.ages c.begin.new.desk.files.items c.begin.new.desk.marks.items) (desk_of (process_of c.run_out.new.desk.guest.at (g.B.Book.ledger c.run_out.new.desk.guest.book)) (g.R.Registrar.holder c.run_out.new.registrar).own c.run_out.new.desk.ages c.run_out.new.desk.files.items c.run_out.new.desk.marks.items) (desk_of (process_of c.close.new.desk.guest.at (g.B.Book.ledger c.close.new.desk.guest.book)) (g.R.Registrar.holder c.close.new.registrar).own c.close.new.desk.ages c.close.new.desk.files.items c.close.new.desk.marks.items) c.in_ok-end.end begins out parts
