use Rattle.std.proofs.Common.{◌≡◌, [], refl, sym, ◌∙◌, subst}
use Rattle.guest_proc.specs.declared.stop.Stop.TheVariants as stop
use Rattle.guest_proc.specs.Kept.{process_of, scheme_of}
use Rattle.guest_answers.specs.Plan.{caller_of, setting_of}
use Rattle.guest_answers.specs.Desk.{desk_of}
use Rattle.guest_answers.specs.Answer.{RepliesTo}
use Rattle.guest_answers.proofs.Growing.{grows-none, grows-on}
use Rattle.guest_answers.proofs.Walking.{fits-now}
use Rattle.guest_loop.specs.Run.{RunsFar}
use Rattle.guest_loop.proofs.Answered.{Leaves, call-is, fuel-less, reply-leaves, runs-none, runs-on}
use Rattle.guest_loop.proofs.Turning.{built-at, end-is, isa-keeps, kept-at}
use Rattle.guest_loop.proofs.turns.run_out.Goals as goal

pub loop-stop-init : goal.loop-stop-init
loop-stop-init g c = record { caller = refl; opening = refl; scheme = refl; entered = c.requires.run; grows = grows-none c.args.desk.now.number (g.R.Registrar.holder c.args.registrar.now) (g.R.Registrar.holder c.args.registrar.now) refl; runs = runs-none (setting_of c.args.plan.now) (scheme_of c.args.desk.now.guest.at c.args.desk.now.guest.limits) (caller_of c.args.plan.now c.args.desk.now.number c.args.desk.now.recipe) (desk_of (process_of c.args.desk.now.guest.at (g.B.Book.ledger c.args.desk.now.guest.book)) (g.R.Registrar.holder c.args.registrar.now).own c.args.desk.now.ages c.args.desk.now.files.items c.args.desk.now.marks.items); kept = c.requires.kept; built = c.requires.built }

pub run_on-requires : goal.run_on-requires
run_on-requires g c = record {
  fits = fits-now c.args.plan.now (caller_of c.args.plan.now c.args.desk.now.number c.args.desk.now.recipe) (caller_of c.args.plan.now c.loop-stop.desk.number c.loop-stop.desk.recipe) (g.R.Registrar.holder c.args.registrar.now).opening (g.R.Registrar.holder c.loop-stop.registrar).opening c.loop-stop.invariant.caller c.loop-stop.invariant.opening c.requires.fits;
  built = built-at (caller_of c.args.plan.now c.args.desk.now.number c.args.desk.now.recipe) (caller_of c.args.plan.now c.loop-stop.desk.number c.loop-stop.desk.recipe) (scheme_of c.args.desk.now.guest.at c.args.desk.now.guest.limits) (scheme_of c.loop-stop.desk.guest.at c.loop-stop.desk.guest.limits) (process_of c.loop-stop.desk.guest.at (g.B.Book.ledger c.loop-stop.desk.guest.book)) c.loop-stop.invariant.caller c.loop-stop.invariant.scheme c.loop-stop.invariant.built;
  kept = kept-at c.args.plan.now (caller_of c.args.plan.now c.args.desk.now.number c.args.desk.now.recipe) (caller_of c.args.plan.now c.loop-stop.desk.number c.loop-stop.desk.recipe) [] (desk_of (process_of c.loop-stop.desk.guest.at (g.B.Book.ledger c.loop-stop.desk.guest.book)) (g.R.Registrar.holder c.loop-stop.registrar).own c.loop-stop.desk.ages c.loop-stop.desk.files.items c.loop-stop.desk.marks.items) c.loop-stop.invariant.caller c.loop-stop.invariant.kept;
}

pub returns-in-Some-clause-out : goal.returns-in-Some-clause-out
returns-in-Some-clause-out g c =
    let far : RunsFar (scheme_of c.args.desk.now.guest.at c.args.desk.now.guest.limits) (caller_of c.args.plan.now c.args.desk.now.number c.args.desk.now.recipe) (desk_of (process_of c.loop-stop.desk.guest.at (g.B.Book.ledger c.loop-stop.desk.guest.book)) (g.R.Registrar.holder c.loop-stop.registrar).own c.loop-stop.desk.ages c.loop-stop.desk.files.items c.loop-stop.desk.marks.items) (desk_of (process_of c.run_on.new.desk.guest.at (g.B.Book.ledger c.run_on.new.desk.guest.book)) (g.R.Registrar.holder c.run_on.new.registrar).own c.run_on.new.desk.ages c.run_on.new.desk.files.items c.run_on.new.desk.marks.items) c.in_ok-stop.stop = subst (λ x. RunsFar (scheme_of c.args.desk.now.guest.at c.args.desk.now.guest.limits) x (desk_of (process_of c.loop-stop.desk.guest.at (g.B.Book.ledger c.loop-stop.desk.guest.book)) (g.R.Registrar.holder c.loop-stop.registrar).own c.loop-stop.desk.ages c.loop-stop.desk.files.items c.loop-stop.desk.marks.items) (desk_of (process_of c.run_on.new.desk.guest.at (g.B.Book.ledger c.run_on.new.desk.guest.book)) (g.R.Registrar.holder c.run_on.new.registrar).own c.run_on.new.desk.ages c.run_on.new.desk.files.items c.run_on.new.desk.marks.items) c.in_ok-stop.stop) c.loop-stop.invariant.caller (subst (λ s. RunsFar s (caller_of c.args.plan.now c.loop-stop.desk.number c.loop-stop.desk.recipe) (desk_of (process_of c.loop-stop.desk.guest.at (g.B.Book.ledger c.loop-stop.desk.guest.book)) (g.R.Registrar.holder c.loop-stop.registrar).own c.loop-stop.desk.ages c.loop-stop.desk.files.items c.loop-stop.desk.marks.items) (desk_of (process_of c.run_on.new.desk.guest.at (g.B.Book.ledger c.run_on.new.desk.guest.book)) (g.R.Registrar.holder c.run_on.new.registrar).own c.run_on.new.desk.ages c.run_on.new.desk.files.items c.run_on.new.desk.marks.items) c.in_ok-stop.stop) c.loop-stop.invariant.scheme c.in_ok-stop.ensures.far) in
    let at_end : c.in_ok-stop.stop ≡ stop.Ended c.in-Some.end = end-is c.in_ok-stop.stop c.in-Some.end (sym c.end_in.ensures ∙ c.in-Some.is) in
    record { mid = (desk_of (process_of c.loop-stop.desk.guest.at (g.B.Book.ledger c.loop-stop.desk.guest.book)) (g.R.Registrar.holder c.loop-stop.registrar).own c.loop-stop.desk.ages c.loop-stop.desk.files.items c.loop-stop.desk.marks.items); runs = c.loop-stop.invariant.runs; far = subst (RunsFar (scheme_of c.args.desk.now.guest.at c.args.desk.now.guest.limits) (caller_of c.args.plan.now c.args.desk.now.number c.args.desk.now.recipe) (desk_of (process_of c.loop-stop.desk.guest.at (g.B.Book.ledger c.loop-stop.desk.guest.book)) (g.R.Registrar.holder c.loop-stop.registrar).own c.loop-stop.desk.ages c.loop-stop.desk.files.items c.loop-stop.desk.marks.items) (desk_of (process_of c.run_on.new.desk.guest.at (g.B.Book.ledger c.run_on.new.desk.guest.book)) (g.R.Registrar.holder c.run_on.new.registrar).own c.run_on.new.desk.ages c.run_on.new.desk.files.items c.run_on.new.desk.marks.items)) at_end far }

pub returns-in-Some-clause-kept : goal.returns-in-Some-clause-kept
returns-in-Some-clause-kept g c = kept-at c.args.plan.now (caller_of c.args.plan.now c.loop-stop.desk.number c.loop-stop.desk.recipe) (caller_of c.args.plan.now c.args.desk.now.number c.args.desk.now.recipe) [] (desk_of (process_of c.run_on.new.desk.guest.at (g.B.Book.ledger c.run_on.new.desk.guest.book)) (g.R.Registrar.holder c.run_on.new.registrar).own c.run_on.new.desk.ages c.run_on.new.desk.files.items c.run_on.new.desk.marks.items) (sym c.loop-stop.invariant.caller) c.in_ok-stop.ensures.kept

pub returns-in-Some-clause-built : goal.returns-in-Some-clause-built
returns-in-Some-clause-built g c = built-at (caller_of c.args.plan.now c.loop-stop.desk.number c.loop-stop.desk.recipe) (caller_of c.args.plan.now c.args.desk.now.number c.args.desk.now.recipe) (scheme_of c.loop-stop.desk.guest.at c.loop-stop.desk.guest.limits) (scheme_of c.args.desk.now.guest.at c.args.desk.now.guest.limits) (process_of c.run_on.new.desk.guest.at (g.B.Book.ledger c.run_on.new.desk.guest.book)) (sym c.loop-stop.invariant.caller) (sym c.loop-stop.invariant.scheme) c.in_ok-stop.ensures.built

pub returns-in_err-stop-clause-grows : goal.returns-in_err-stop-clause-grows
returns-in_err-stop-clause-grows g c = grows-on (caller_of c.args.plan.now c.args.desk.now.number c.args.desk.now.recipe) (caller_of c.args.plan.now c.loop-stop.desk.number c.loop-stop.desk.recipe) (g.R.Registrar.holder c.args.registrar.now) (g.R.Registrar.holder c.loop-stop.registrar) (g.R.Registrar.holder c.run_on.new.registrar) c.loop-stop.invariant.caller c.loop-stop.invariant.grows c.run_on.ensures.grows

pub returns-in-Some-clause-grows : goal.returns-in-Some-clause-grows
returns-in-Some-clause-grows g c = grows-on (caller_of c.args.plan.now c.args.desk.now.number c.args.desk.now.recipe) (caller_of c.args.plan.now c.loop-stop.desk.number c.loop-stop.desk.recipe) (g.R.Registrar.holder c.args.registrar.now) (g.R.Registrar.holder c.loop-stop.registrar) (g.R.Registrar.holder c.run_on.new.registrar) c.loop-stop.invariant.caller c.loop-stop.invariant.grows c.run_on.ensures.grows

pub returns-in_err-answer_stop-clause-grows : goal.returns-in_err-answer_stop-clause-grows
returns-in_err-answer_stop-clause-grows g c = grows-on (caller_of c.args.plan.now c.args.desk.now.number c.args.desk.now.recipe) (caller_of c.args.plan.now c.run_on.new.desk.number c.run_on.new.desk.recipe) (g.R.Registrar.holder c.args.registrar.now) (g.R.Registrar.holder c.run_on.new.registrar) (g.R.Registrar.holder c.answer_stop.new.registrar) (c.run_on.ensures.caller ∙ c.loop-stop.invariant.caller) (grows-on (caller_of c.args.plan.now c.args.desk.now.number c.args.desk.now.recipe) (caller_of c.args.plan.now c.loop-stop.desk.number c.loop-stop.desk.recipe) (g.R.Registrar.holder c.args.registrar.now) (g.R.Registrar.holder c.loop-stop.registrar) (g.R.Registrar.holder c.run_on.new.registrar) c.loop-stop.invariant.caller c.loop-stop.invariant.grows c.run_on.ensures.grows) c.answer_stop.ensures.grows

pub answer_stop-requires : goal.answer_stop-requires
answer_stop-requires g c = record {
  fits = fits-now c.args.plan.now (caller_of c.args.plan.now c.args.desk.now.number c.args.desk.now.recipe) (caller_of c.args.plan.now c.run_on.new.desk.number c.run_on.new.desk.recipe) (g.R.Registrar.holder c.args.registrar.now).opening (g.R.Registrar.holder c.run_on.new.registrar).opening (c.run_on.ensures.caller ∙ c.loop-stop.invariant.caller) (c.run_on.ensures.opening ∙ c.loop-stop.invariant.opening) c.requires.fits;
  built = built-at (caller_of c.args.plan.now c.args.desk.now.number c.args.desk.now.recipe) (caller_of c.args.plan.now c.run_on.new.desk.number c.run_on.new.desk.recipe) (scheme_of c.args.desk.now.guest.at c.args.desk.now.guest.limits) (scheme_of c.run_on.new.desk.guest.at c.run_on.new.desk.guest.limits) (process_of c.run_on.new.desk.guest.at (g.B.Book.ledger c.run_on.new.desk.guest.book)) (c.run_on.ensures.caller ∙ c.loop-stop.invariant.caller) (c.run_on.ensures.scheme ∙ c.loop-stop.invariant.scheme) (built-at (caller_of c.args.plan.now c.loop-stop.desk.number c.loop-stop.desk.recipe) (caller_of c.args.plan.now c.args.desk.now.number c.args.desk.now.recipe) (scheme_of c.loop-stop.desk.guest.at c.loop-stop.desk.guest.limits) (scheme_of c.args.desk.now.guest.at c.args.desk.now.guest.limits) (process_of c.run_on.new.desk.guest.at (g.B.Book.ledger c.run_on.new.desk.guest.book)) (sym c.loop-stop.invariant.caller) (sym c.loop-stop.invariant.scheme) c.in_ok-stop.ensures.built);
  kept = kept-at c.args.plan.now (caller_of c.args.plan.now c.args.desk.now.number c.args.desk.now.recipe) (caller_of c.args.plan.now c.run_on.new.desk.number c.run_on.new.desk.recipe) [] (desk_of (process_of c.run_on.new.desk.guest.at (g.B.Book.ledger c.run_on.new.desk.guest.book)) (g.R.Registrar.holder c.run_on.new.registrar).own c.run_on.new.desk.ages c.run_on.new.desk.files.items c.run_on.new.desk.marks.items) (c.run_on.ensures.caller ∙ c.loop-stop.invariant.caller) (kept-at c.args.plan.now (caller_of c.args.plan.now c.loop-stop.desk.number c.loop-stop.desk.recipe) (caller_of c.args.plan.now c.args.desk.now.number c.args.desk.now.recipe) [] (desk_of (process_of c.run_on.new.desk.guest.at (g.B.Book.ledger c.run_on.new.desk.guest.book)) (g.R.Registrar.holder c.run_on.new.registrar).own c.run_on.new.desk.ages c.run_on.new.desk.files.items c.run_on.new.desk.marks.items) (sym c.loop-stop.invariant.caller) c.in_ok-stop.ensures.kept);
  run = c.run_on.ensures.entered ∙ c.loop-stop.invariant.entered;
  asks = c.in_ok-stop.ensures.asks;
  call = call-is c.in_ok-stop.stop c.in_ok-stop.ensures.full (sym c.end_in.ensures ∙ c.in_default.is);
}

pub loop-stop-smaller : goal.loop-stop-smaller
loop-stop-smaller g c =
    let far : RunsFar (scheme_of c.args.desk.now.guest.at c.args.desk.now.guest.limits) (caller_of c.args.plan.now c.args.desk.now.number c.args.desk.now.recipe) (desk_of (process_of c.loop-stop.desk.guest.at (g.B.Book.ledger c.loop-stop.desk.guest.book)) (g.R.Registrar.holder c.loop-stop.registrar).own c.loop-stop.desk.ages c.loop-stop.desk.files.items c.loop-stop.desk.marks.items) (desk_of (process_of c.run_on.new.desk.guest.at (g.B.Book.ledger c.run_on.new.desk.guest.book)) (g.R.Registrar.holder c.run_on.new.registrar).own c.run_on.new.desk.ages c.run_on.new.desk.files.items c.run_on.new.desk.marks.items) c.in_ok-stop.stop = subst (λ x. RunsFar (scheme_of c.args.desk.now.guest.at c.args.desk.now.guest.limits) x (desk_of (process_of c.loop-stop.desk.guest.at (g.B.Book.ledger c.loop-stop.desk.guest.book)) (g.R.Registrar.holder c.loop-stop.registrar).own c.loop-stop.desk.ages c.loop-stop.desk.files.items c.loop-stop.desk.marks.items) (desk_of (process_of c.run_on.new.desk.guest.at (g.B.Book.ledger c.run_on.new.desk.guest.book)) (g.R.Registrar.holder c.run_on.new.registrar).own c.run_on.new.desk.ages c.run_on.new.desk.files.items c.run_on.new.desk.marks.items) c.in_ok-stop.stop) c.loop-stop.invariant.caller (subst (λ s. RunsFar s (caller_of c.args.plan.now c.loop-stop.desk.number c.loop-stop.desk.recipe) (desk_of (process_of c.loop-stop.desk.guest.at (g.B.Book.ledger c.loop-stop.desk.guest.book)) (g.R.Registrar.holder c.loop-stop.registrar).own c.loop-stop.desk.ages c.loop-stop.desk.files.items c.loop-stop.desk.marks.items) (desk_of (process_of c.run_on.new.desk.guest.at (g.B.Book.ledger c.run_on.new.desk.guest.book)) (g.R.Registrar.holder c.run_on.new.registrar).own c.run_on.new.desk.ages c.run_on.new.desk.files.items c.run_on.new.desk.marks.items) c.in_ok-stop.stop) c.loop-stop.invariant.scheme c.in_ok-stop.ensures.far) in
    let replies : RepliesTo (setting_of c.args.plan.now) (scheme_of c.args.desk.now.guest.at c.args.desk.now.guest.limits) (caller_of c.args.plan.now c.args.desk.now.number c.args.desk.now.recipe) (desk_of (process_of c.run_on.new.desk.guest.at (g.B.Book.ledger c.run_on.new.desk.guest.book)) (g.R.Registrar.holder c.run_on.new.registrar).own c.run_on.new.desk.ages c.run_on.new.desk.files.items c.run_on.new.desk.marks.items) (desk_of (process_of c.answer_stop.new.desk.guest.at (g.B.Book.ledger c.answer_stop.new.desk.guest.book)) (g.R.Registrar.holder c.answer_stop.new.registrar).own c.answer_stop.new.desk.ages c.answer_stop.new.desk.files.items c.answer_stop.new.desk.marks.items) c.in_ok-stop.stop = subst (λ x. RepliesTo (setting_of c.args.plan.now) (scheme_of c.args.desk.now.guest.at c.args.desk.now.guest.limits) x (desk_of (process_of c.run_on.new.desk.guest.at (g.B.Book.ledger c.run_on.new.desk.guest.book)) (g.R.Registrar.holder c.run_on.new.registrar).own c.run_on.new.desk.ages c.run_on.new.desk.files.items c.run_on.new.desk.marks.items) (desk_of (process_of c.answer_stop.new.desk.guest.at (g.B.Book.ledger c.answer_stop.new.desk.guest.book)) (g.R.Registrar.holder c.answer_stop.new.registrar).own c.answer_stop.new.desk.ages c.answer_stop.new.desk.files.items c.answer_stop.new.desk.marks.items) c.in_ok-stop.stop) (c.run_on.ensures.caller ∙ c.loop-stop.invariant.caller) (subst (λ s. RepliesTo (setting_of c.args.plan.now) s (caller_of c.args.plan.now c.run_on.new.desk.number c.run_on.new.desk.recipe) (desk_of (process_of c.run_on.new.desk.guest.at (g.B.Book.ledger c.run_on.new.desk.guest.book)) (g.R.Registrar.holder c.run_on.new.registrar).own c.run_on.new.desk.ages c.run_on.new.desk.files.items c.run_on.new.desk.marks.items) (desk_of (process_of c.answer_stop.new.desk.guest.at (g.B.Book.ledger c.answer_stop.new.desk.guest.book)) (g.R.Registrar.holder c.answer_stop.new.registrar).own c.answer_stop.new.desk.ages c.answer_stop.new.desk.files.items c.answer_stop.new.desk.marks.items) c.in_ok-stop.stop) (c.run_on.ensures.scheme ∙ c.loop-stop.invariant.scheme) c.in_ok-answer_stop.ensures.replies) in
    let left : Leaves (process_of c.run_on.new.desk.guest.at (g.B.Book.ledger c.run_on.new.desk.guest.book)) (process_of c.answer_stop.new.desk.guest.at (g.B.Book.ledger c.answer_stop.new.desk.guest.book)) = reply-leaves (setting_of c.args.plan.now) (scheme_of c.args.desk.now.guest.at c.args.desk.now.guest.limits) (caller_of c.args.plan.now c.args.desk.now.number c.args.desk.now.recipe) (desk_of (process_of c.run_on.new.desk.guest.at (g.B.Book.ledger c.run_on.new.desk.guest.book)) (g.R.Registrar.holder c.run_on.new.registrar).own c.run_on.new.desk.ages c.run_on.new.desk.files.items c.run_on.new.desk.marks.items) (desk_of (process_of c.answer_stop.new.desk.guest.at (g.B.Book.ledger c.answer_stop.new.desk.guest.book)) (g.R.Registrar.holder c.answer_stop.new.registrar).own c.answer_stop.new.desk.ages c.answer_stop.new.desk.files.items c.answer_stop.new.desk.marks.items) c.in_ok-stop.stop replies in
    fuel-less (scheme_of c.args.desk.now.guest.at c.args.desk.now.guest.limits) (caller_of c.args.plan.now c.args.desk.now.number c.args.desk.now.recipe) (desk_of (process_of c.loop-stop.desk.guest.at (g.B.Book.ledger c.loop-stop.desk.guest.book)) (g.R.Registrar.holder c.loop-stop.registrar).own c.loop-stop.desk.ages c.loop-stop.desk.files.items c.loop-stop.desk.marks.items) (desk_of (process_of c.run_on.new.desk.guest.at (g.B.Book.ledger c.run_on.new.desk.guest.book)) (g.R.Registrar.holder c.run_on.new.registrar).own c.run_on.new.desk.ages c.run_on.new.desk.files.items c.run_on.new.desk.marks.items) (desk_of (process_of c.answer_stop.new.desk.guest.at (g.B.Book.ledger c.answer_stop.new.desk.guest.book)) (g.R.Registrar.holder c.answer_stop.new.registrar).own c.answer_stop.new.desk.ages c.answer_stop.new.desk.files.items c.answer_stop.new.desk.marks.items) c.in_ok-stop.stop far (call-is c.in_ok-stop.stop c.in_ok-stop.ensures.full (sym c.end_in.ensures ∙ c.in_default.is)) left.fuel

pub loop-stop-preserved : goal.loop-stop-preserved
loop-stop-preserved g c =
    let far : RunsFar (scheme_of c.args.desk.now.guest.at c.args.desk.now.guest.limits) (caller_of c.args.plan.now c.args.desk.now.number c.args.desk.now.recipe) (desk_of (process_of c.loop-stop.desk.guest.at (g.B.Book.ledger c.loop-stop.desk.guest.book)) (g.R.Registrar.holder c.loop-stop.registrar).own c.loop-stop.desk.ages c.loop-stop.desk.files.items c.loop-stop.desk.marks.items) (desk_of (process_of c.run_on.new.desk.guest.at (g.B.Book.ledger c.run_on.new.desk.guest.book)) (g.R.Registrar.holder c.run_on.new.registrar).own c.run_on.new.desk.ages c.run_on.new.desk.files.items c.run_on.new.desk.marks.items) c.in_ok-stop.stop = subst (λ x. RunsFar (scheme_of c.args.desk.now.guest.at c.args.desk.now.guest.limits) x (desk_of (process_of c.loop-stop.desk.guest.at (g.B.Book.ledger c.loop-stop.desk.guest.book)) (g.R.Registrar.holder c.loop-stop.registrar).own c.loop-stop.desk.ages c.loop-stop.desk.files.items c.loop-stop.desk.marks.items) (desk_of (process_of c.run_on.new.desk.guest.at (g.B.Book.ledger c.run_on.new.desk.guest.book)) (g.R.Registrar.holder c.run_on.new.registrar).own c.run_on.new.desk.ages c.run_on.new.desk.files.items c.run_on.new.desk.marks.items) c.in_ok-stop.stop) c.loop-stop.invariant.caller (subst (λ s. RunsFar s (caller_of c.args.plan.now c.loop-stop.desk.number c.loop-stop.desk.recipe) (desk_of (process_of c.loop-stop.desk.guest.at (g.B.Book.ledger c.loop-stop.desk.guest.book)) (g.R.Registrar.holder c.loop-stop.registrar).own c.loop-stop.desk.ages c.loop-stop.desk.files.items c.loop-stop.desk.marks.items) (desk_of (process_of c.run_on.new.desk.guest.at (g.B.Book.ledger c.run_on.new.desk.guest.book)) (g.R.Registrar.holder c.run_on.new.registrar).own c.run_on.new.desk.ages c.run_on.new.desk.files.items c.run_on.new.desk.marks.items) c.in_ok-stop.stop) c.loop-stop.invariant.scheme c.in_ok-stop.ensures.far) in
    let replies : RepliesTo (setting_of c.args.plan.now) (scheme_of c.args.desk.now.guest.at c.args.desk.now.guest.limits) (caller_of c.args.plan.now c.args.desk.now.number c.args.desk.now.recipe) (desk_of (process_of c.run_on.new.desk.guest.at (g.B.Book.ledger c.run_on.new.desk.guest.book)) (g.R.Registrar.holder c.run_on.new.registrar).own c.run_on.new.desk.ages c.run_on.new.desk.files.items c.run_on.new.desk.marks.items) (desk_of (process_of c.answer_stop.new.desk.guest.at (g.B.Book.ledger c.answer_stop.new.desk.guest.book)) (g.R.Registrar.holder c.answer_stop.new.registrar).own c.answer_stop.new.desk.ages c.answer_stop.new.desk.files.items c.answer_stop.new.desk.marks.items) c.in_ok-stop.stop = subst (λ x. RepliesTo (setting_of c.args.plan.now) (scheme_of c.args.desk.now.guest.at c.args.desk.now.guest.limits) x (desk_of (process_of c.run_on.new.desk.guest.at (g.B.Book.ledger c.run_on.new.desk.guest.book)) (g.R.Registrar.holder c.run_on.new.registrar).own c.run_on.new.desk.ages c.run_on.new.desk.files.items c.run_on.new.desk.marks.items) (desk_of (process_of c.answer_stop.new.desk.guest.at (g.B.Book.ledger c.answer_stop.new.desk.guest.book)) (g.R.Registrar.holder c.answer_stop.new.registrar).own c.answer_stop.new.desk.ages c.answer_stop.new.desk.files.items c.answer_stop.new.desk.marks.items) c.in_ok-stop.stop) (c.run_on.ensures.caller ∙ c.loop-stop.invariant.caller) (subst (λ s. RepliesTo (setting_of c.args.plan.now) s (caller_of c.args.plan.now c.run_on.new.desk.number c.run_on.new.desk.recipe) (desk_of (process_of c.run_on.new.desk.guest.at (g.B.Book.ledger c.run_on.new.desk.guest.book)) (g.R.Registrar.holder c.run_on.new.registrar).own c.run_on.new.desk.ages c.run_on.new.desk.files.items c.run_on.new.desk.marks.items) (desk_of (process_of c.answer_stop.new.desk.guest.at (g.B.Book.ledger c.answer_stop.new.desk.guest.book)) (g.R.Registrar.holder c.answer_stop.new.registrar).own c.answer_stop.new.desk.ages c.answer_stop.new.desk.files.items c.answer_stop.new.desk.marks.items) c.in_ok-stop.stop) (c.run_on.ensures.scheme ∙ c.loop-stop.invariant.scheme) c.in_ok-answer_stop.ensures.replies) in
    let left : Leaves (process_of c.run_on.new.desk.guest.at (g.B.Book.ledger c.run_on.new.desk.guest.book)) (process_of c.answer_stop.new.desk.guest.at (g.B.Book.ledger c.answer_stop.new.desk.guest.book)) = reply-leaves (setting_of c.args.plan.now) (scheme_of c.args.desk.now.guest.at c.args.desk.now.guest.limits) (caller_of c.args.plan.now c.args.desk.now.number c.args.desk.now.recipe) (desk_of (process_of c.run_on.new.desk.guest.at (g.B.Book.ledger c.run_on.new.desk.guest.book)) (g.R.Registrar.holder c.run_on.new.registrar).own c.run_on.new.desk.ages c.run_on.new.desk.files.items c.run_on.new.desk.marks.items) (desk_of (process_of c.answer_stop.new.desk.guest.at (g.B.Book.ledger c.answer_stop.new.desk.guest.book)) (g.R.Registrar.holder c.answer_stop.new.registrar).own c.answer_stop.new.desk.ages c.answer_stop.new.desk.files.items c.answer_stop.new.desk.marks.items) c.in_ok-stop.stop replies in
    record {
      caller = c.answer_stop.ensures.caller ∙ c.run_on.ensures.caller ∙ c.loop-stop.invariant.caller;
      opening = c.answer_stop.ensures.opening ∙ c.run_on.ensures.opening ∙ c.loop-stop.invariant.opening;
      scheme = c.answer_stop.ensures.scheme ∙ c.run_on.ensures.scheme ∙ c.loop-stop.invariant.scheme;
      entered = c.in_ok-answer_stop.ensures.entered;
      grows = grows-on (caller_of c.args.plan.now c.args.desk.now.number c.args.desk.now.recipe) (caller_of c.args.plan.now c.run_on.new.desk.number c.run_on.new.desk.recipe) (g.R.Registrar.holder c.args.registrar.now) (g.R.Registrar.holder c.run_on.new.registrar) (g.R.Registrar.holder c.answer_stop.new.registrar) (c.run_on.ensures.caller ∙ c.loop-stop.invariant.caller) (grows-on (caller_of c.args.plan.now c.args.desk.now.number c.args.desk.now.recipe) (caller_of c.args.plan.now c.loop-stop.desk.number c.loop-stop.desk.recipe) (g.R.Registrar.holder c.args.registrar.now) (g.R.Registrar.holder c.loop-stop.registrar) (g.R.Registrar.holder c.run_on.new.registrar) c.loop-stop.invariant.caller c.loop-stop.invariant.grows c.run_on.ensures.grows) c.answer_stop.ensures.grows;
      runs = runs-on (setting_of c.args.plan.now) (scheme_of c.args.desk.now.guest.at c.args.desk.now.guest.limits) (caller_of c.args.plan.now c.args.desk.now.number c.args.desk.now.recipe) (desk_of (process_of c.args.desk.now.guest.at (g.B.Book.ledger c.args.desk.now.guest.book)) (g.R.Registrar.holder c.args.registrar.now).own c.args.desk.now.ages c.args.desk.now.files.items c.args.desk.now.marks.items) (desk_of (process_of c.loop-stop.desk.guest.at (g.B.Book.ledger c.loop-stop.desk.guest.book)) (g.R.Registrar.holder c.loop-stop.registrar).own c.loop-stop.desk.ages c.loop-stop.desk.files.items c.loop-stop.desk.marks.items) (desk_of (process_of c.run_on.new.desk.guest.at (g.B.Book.ledger c.run_on.new.desk.guest.book)) (g.R.Registrar.holder c.run_on.new.registrar).own c.run_on.new.desk.ages c.run_on.new.desk.files.items c.run_on.new.desk.marks.items) (desk_of (process_of c.answer_stop.new.desk.guest.at (g.B.Book.ledger c.answer_stop.new.desk.guest.book)) (g.R.Registrar.holder c.answer_stop.new.registrar).own c.answer_stop.new.desk.ages c.answer_stop.new.desk.files.items c.answer_stop.new.desk.marks.items) c.in_ok-stop.stop c.loop-stop.invariant.runs far replies;
      kept = kept-at c.args.plan.now (caller_of c.args.plan.now c.run_on.new.desk.number c.run_on.new.desk.recipe) (caller_of c.args.plan.now c.args.desk.now.number c.args.desk.now.recipe) [] (desk_of (process_of c.answer_stop.new.desk.guest.at (g.B.Book.ledger c.answer_stop.new.desk.guest.book)) (g.R.Registrar.holder c.answer_stop.new.registrar).own c.answer_stop.new.desk.ages c.answer_stop.new.desk.files.items c.answer_stop.new.desk.marks.items) (sym (c.run_on.ensures.caller ∙ c.loop-stop.invariant.caller)) c.in_ok-answer_stop.ensures.kept;
      built = isa-keeps (caller_of c.args.plan.now c.args.desk.now.number c.args.desk.now.recipe) (scheme_of c.args.desk.now.guest.at c.args.desk.now.guest.limits) (process_of c.run_on.new.desk.guest.at (g.B.Book.ledger c.run_on.new.desk.guest.book)) (process_of c.answer_stop.new.desk.guest.at (g.B.Book.ledger c.answer_stop.new.desk.guest.book)) left.isa (built-at (caller_of c.args.plan.now c.loop-stop.desk.number c.loop-stop.desk.recipe) (caller_of c.args.plan.now c.args.desk.now.number c.args.desk.now.recipe) (scheme_of c.loop-stop.desk.guest.at c.loop-stop.desk.guest.limits) (scheme_of c.args.desk.now.guest.at c.args.desk.now.guest.limits) (process_of c.run_on.new.desk.guest.at (g.B.Book.ledger c.run_on.new.desk.guest.book)) (sym c.loop-stop.invariant.caller) (sym c.loop-stop.invariant.scheme) c.in_ok-stop.ensures.built);
    }
