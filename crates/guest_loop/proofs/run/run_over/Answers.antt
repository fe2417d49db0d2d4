use Rattle.std.proofs.Common.{refl, ◌∙◌, ap, subst}
use Rattle.std.proofs.lemmas.Result.{IfOk-weaker}
use Rattle.block_ledger.specs.Traced.{Scheme}
use Rattle.guest_proc.specs.Kept.{process_of, scheme_of}
use Rattle.guest_answers.specs.Plan.{caller_of}
use Rattle.guest_answers.specs.Desk.{desk_of}
use Rattle.guest_answers.specs.Entries.{Grows}
use Rattle.guest_answers.proofs.Walking.{fits-now}
use Rattle.guest_loop.specs.Guest.{caller_for}
use Rattle.guest_loop.proofs.Telling.{caller-is, first-bare, first-built, told-over}
use Rattle.guest_loop.proofs.run.run_over.Goals as goal

pub run_whole-requires : goal.run_whole-requires
run_whole-requires g c = record {
  fits = fits-now c.args.plan.now (caller_for c.args.plan.now c.args.work.guest c.args.work.setup) (caller_of c.args.plan.now c.in_ok-desk.desk.number c.in_ok-desk.desk.recipe) (g.R.Registrar.holder c.args.registrar.now).opening (g.R.Registrar.holder c.args.registrar.now).opening (caller-is c.args.plan.now c.in_ok-desk.desk.number c.args.work.guest c.in_ok-desk.desk.recipe c.args.work.setup c.in_ok-desk.ensures.number c.in_ok-desk.ensures.recipe) refl c.requires.fits;
  built = first-built (caller_of c.args.plan.now c.in_ok-desk.desk.number c.in_ok-desk.desk.recipe) (scheme_of c.in_ok-desk.desk.guest.at c.in_ok-desk.desk.guest.limits) c.args.work.setup (process_of c.in_ok-desk.desk.guest.at (g.B.Book.ledger c.in_ok-desk.desk.guest.book)) c.in_ok-desk.ensures.recipe c.in_ok-desk.ensures.scheme c.in_ok-desk.ensures.starts;
  known = c.requires.known;
  bare = first-bare c.args.work.setup (process_of c.in_ok-desk.desk.guest.at (g.B.Book.ledger c.in_ok-desk.desk.guest.book)) c.in_ok-desk.ensures.starts;
  even = c.requires.even;
  none = c.in_ok-desk.ensures.empty.0;
  first = c.in_ok-desk.ensures.entered;
}

pub returns-clause-told : goal.returns-clause-told
returns-clause-told g c = IfOk-weaker c.tell.result _ _ (λ ran put.
    told-over c.args.plan.now (caller_for c.args.plan.now c.args.work.guest c.args.work.setup) (caller_of c.args.plan.now c.in_ok-desk.desk.number c.in_ok-desk.desk.recipe) (scheme_of c.in_ok-desk.desk.guest.at c.in_ok-desk.desk.guest.limits) c.args.work.module c.args.work.setup (desk_of (process_of c.in_ok-desk.desk.guest.at (g.B.Book.ledger c.in_ok-desk.desk.guest.book)) (g.R.Registrar.holder c.args.registrar.now).own c.in_ok-desk.desk.ages c.in_ok-desk.desk.files.items c.in_ok-desk.desk.marks.items) (desk_of (process_of c.run_whole.new.desk.guest.at (g.B.Book.ledger c.run_whole.new.desk.guest.book)) (g.R.Registrar.holder c.run_whole.new.registrar).own c.run_whole.new.desk.ages c.run_whole.new.desk.files.items c.run_whole.new.desk.marks.items) c.in_ok-end.end ran (caller-is c.args.plan.now c.in_ok-desk.desk.number c.args.work.guest c.in_ok-desk.desk.recipe c.args.work.setup c.in_ok-desk.ensures.number c.in_ok-desk.ensures.recipe) c.in_ok-desk.ensures.scheme c.in_ok-desk.ensures.starts
    c.in_ok-desk.ensures.empty.0 c.in_ok-desk.ensures.empty.1 c.in_ok-desk.ensures.empty.2 (ap (λ (s : Scheme). s.tool) c.run_whole.ensures.scheme) c.in_ok-end.ensures.whole put) c.tell.ensures.put

pub returns-in_err-end-clause-grows : goal.returns-in_err-end-clause-grows
returns-in_err-end-clause-grows g c = subst (λ n. Grows n (g.R.Registrar.holder c.args.registrar.now) (g.R.Registrar.holder c.run_whole.new.registrar)) c.in_ok-desk.ensures.number c.run_whole.ensures.grows

pub returns-clause-grows : goal.returns-clause-grows
returns-clause-grows g c = subst (λ n. Grows n (g.R.Registrar.holder c.args.registrar.now) (g.R.Registrar.holder c.run_whole.new.registrar)) c.in_ok-desk.ensures.number c.run_whole.ensures.grows
