use Rattle.std.proofs.Common.{refl, sym, ◌∙◌, subst, arith, slice_index_or}
use Rattle.guest_proc.specs.Kept.{process_of, scheme_of}
use Rattle.guest_answers.specs.Plan.{caller_of}
use Rattle.guest_answers.specs.Desk.{HoldsAt, desk_of}
use Rattle.guest_answers.proofs.Growing.{grows-none, grows-on}
use Rattle.guest_answers.proofs.Rooming.{first-attached, keeps-next, offers-end, offers-next, offers-start}
use Rattle.guest_answers.proofs.Walking.{built-now, fits-now}
use Rattle.guest_answers.proofs.room.offer_all.Goals as goal

pub loop-number-init : goal.loop-number-init
loop-number-init g c = record { caller = refl; opening = refl; scheme = refl; entered = refl; grows = grows-none c.args.desk.now.number (g.R.Registrar.holder c.args.registrar.now) (g.R.Registrar.holder c.args.registrar.now) refl; rest = offers-start (caller_of c.args.plan.now c.args.desk.now.number c.args.desk.now.recipe) c.args.numbers.now (desk_of (process_of c.args.desk.now.guest.at (g.B.Book.ledger c.args.desk.now.guest.book)) (g.R.Registrar.holder c.args.registrar.now).own c.args.desk.now.ages c.args.desk.now.files.items c.args.desk.now.marks.items) c.requires.attached; kept = c.requires.kept }

pub offer_one-requires : goal.offer_one-requires
offer_one-requires g c = record {
  fits = fits-now c.args.plan.now (caller_of c.args.plan.now c.args.desk.now.number c.args.desk.now.recipe) (caller_of c.args.plan.now c.loop-number.desk.number c.loop-number.desk.recipe) (g.R.Registrar.holder c.args.registrar.now).opening (g.R.Registrar.holder c.loop-number.registrar).opening c.loop-number.invariant.caller c.loop-number.invariant.opening c.requires.fits;
  built = built-now (caller_of c.args.plan.now c.args.desk.now.number c.args.desk.now.recipe) (caller_of c.args.plan.now c.loop-number.desk.number c.loop-number.desk.recipe) (scheme_of c.args.desk.now.guest.at c.args.desk.now.guest.limits) (scheme_of c.loop-number.desk.guest.at c.loop-number.desk.guest.limits) (process_of c.args.desk.now.guest.at (g.B.Book.ledger c.args.desk.now.guest.book)) (process_of c.loop-number.desk.guest.at (g.B.Book.ledger c.loop-number.desk.guest.book)) c.loop-number.invariant.caller c.loop-number.invariant.scheme c.loop-number.invariant.rest.becomes c.requires.built;
  attached = first-attached c.args.numbers.now c.loop-number.number-index (g.B.Book.ledger c.loop-number.desk.guest.book) (omega arith) c.loop-number.invariant.rest.attached;
  holds = subst (λ x. HoldsAt c.args.plan.now x (slice_index_or c.args.numbers.now c.loop-number.number-index 0) (desk_of (process_of c.loop-number.desk.guest.at (g.B.Book.ledger c.loop-number.desk.guest.book)) (g.R.Registrar.holder c.loop-number.registrar).own c.loop-number.desk.ages c.loop-number.desk.files.items c.loop-number.desk.marks.items)) (sym c.loop-number.invariant.caller) (c.loop-number.invariant.kept.holds (slice_index_or c.args.numbers.now c.loop-number.number-index 0) refl);
}

pub loop-number-preserved : goal.loop-number-preserved
loop-number-preserved g c = record {
  caller = c.offer_one.ensures.caller ∙ c.loop-number.invariant.caller;
  opening = c.offer_one.ensures.opening ∙ c.loop-number.invariant.opening;
  scheme = c.offer_one.ensures.scheme ∙ c.loop-number.invariant.scheme;
  entered = c.offer_one.ensures.entered ∙ c.loop-number.invariant.entered;
  grows = grows-on (caller_of c.args.plan.now c.args.desk.now.number c.args.desk.now.recipe) (caller_of c.args.plan.now c.loop-number.desk.number c.loop-number.desk.recipe) (g.R.Registrar.holder c.args.registrar.now) (g.R.Registrar.holder c.loop-number.registrar) (g.R.Registrar.holder c.offer_one.new.registrar) c.loop-number.invariant.caller c.loop-number.invariant.grows c.offer_one.ensures.grows;
  rest = offers-next (caller_of c.args.plan.now c.args.desk.now.number c.args.desk.now.recipe) (caller_of c.args.plan.now c.loop-number.desk.number c.loop-number.desk.recipe) c.args.numbers.now c.loop-number.number-index (desk_of (process_of c.args.desk.now.guest.at (g.B.Book.ledger c.args.desk.now.guest.book)) (g.R.Registrar.holder c.args.registrar.now).own c.args.desk.now.ages c.args.desk.now.files.items c.args.desk.now.marks.items) (desk_of (process_of c.loop-number.desk.guest.at (g.B.Book.ledger c.loop-number.desk.guest.book)) (g.R.Registrar.holder c.loop-number.registrar).own c.loop-number.desk.ages c.loop-number.desk.files.items c.loop-number.desk.marks.items) (desk_of (process_of c.offer_one.new.desk.guest.at (g.B.Book.ledger c.offer_one.new.desk.guest.book)) (g.R.Registrar.holder c.offer_one.new.registrar).own c.offer_one.new.desk.ages c.offer_one.new.desk.files.items c.offer_one.new.desk.marks.items) (omega arith) c.loop-number.invariant.caller c.loop-number.invariant.rest c.in_ok-offer_one.ensures.offers;
  kept = keeps-next c.args.plan.now (caller_of c.args.plan.now c.args.desk.now.number c.args.desk.now.recipe) (caller_of c.args.plan.now c.loop-number.desk.number c.loop-number.desk.recipe) (desk_of (process_of c.loop-number.desk.guest.at (g.B.Book.ledger c.loop-number.desk.guest.book)) (g.R.Registrar.holder c.loop-number.registrar).own c.loop-number.desk.ages c.loop-number.desk.files.items c.loop-number.desk.marks.items) (desk_of (process_of c.offer_one.new.desk.guest.at (g.B.Book.ledger c.offer_one.new.desk.guest.book)) (g.R.Registrar.holder c.offer_one.new.registrar).own c.offer_one.new.desk.ages c.offer_one.new.desk.files.items c.offer_one.new.desk.marks.items) c.loop-number.invariant.caller c.in_ok-offer_one.ensures.kept c.loop-number.invariant.kept;
}

pub returns-clause-offers : goal.returns-clause-offers
returns-clause-offers g c = offers-end (caller_of c.args.plan.now c.args.desk.now.number c.args.desk.now.recipe) c.args.numbers.now c.loop-number.number-index (desk_of (process_of c.args.desk.now.guest.at (g.B.Book.ledger c.args.desk.now.guest.book)) (g.R.Registrar.holder c.args.registrar.now).own c.args.desk.now.ages c.args.desk.now.files.items c.args.desk.now.marks.items) (desk_of (process_of c.loop-number.desk.guest.at (g.B.Book.ledger c.loop-number.desk.guest.book)) (g.R.Registrar.holder c.loop-number.registrar).own c.loop-number.desk.ages c.loop-number.desk.files.items c.loop-number.desk.marks.items) (omega arith) c.loop-number.invariant.rest

pub returns-in_err-offer_one-clause-grows : goal.returns-in_err-offer_one-clause-grows
returns-in_err-offer_one-clause-grows g c = grows-on (caller_of c.args.plan.now c.args.desk.now.number c.args.desk.now.recipe) (caller_of c.args.plan.now c.loop-number.desk.number c.loop-number.desk.recipe) (g.R.Registrar.holder c.args.registrar.now) (g.R.Registrar.holder c.loop-number.registrar) (g.R.Registrar.holder c.offer_one.new.registrar) c.loop-number.invariant.caller c.loop-number.invariant.grows c.offer_one.ensures.grows

pub returns-clause-grows : goal.returns-clause-grows
returns-clause-grows g c = c.loop-number.invariant.grows
