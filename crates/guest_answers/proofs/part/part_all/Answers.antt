use Rattle.std.proofs.Common.{refl, ◌∙◌, arith}
use Rattle.guest_proc.specs.Kept.{process_of, scheme_of}
use Rattle.guest_answers.specs.Plan.{caller_of}
use Rattle.guest_answers.specs.Desk.{desk_of}
use Rattle.guest_answers.proofs.Growing.{grows-none, grows-on}
use Rattle.guest_answers.proofs.Rooming.{first-attached, first-held, parts-end, parts-kept, parts-let-go, parts-next, parts-start}
use Rattle.guest_answers.proofs.Walking.{built-now, fits-now}
use Rattle.guest_answers.proofs.part.part_all.Goals as goal

pub loop-number-init : goal.loop-number-init
loop-number-init g c = record { caller = refl; opening = refl; scheme = refl; entered = refl; grows = grows-none c.args.desk.now.number (g.R.Registrar.holder c.args.registrar.now) (g.R.Registrar.holder c.args.registrar.now) refl; rest = parts-start c.args.plan.now (caller_of c.args.plan.now c.args.desk.now.number c.args.desk.now.recipe) c.args.numbers.now (desk_of (process_of c.args.desk.now.guest.at (g.B.Book.ledger c.args.desk.now.guest.book)) (g.R.Registrar.holder c.args.registrar.now).own c.args.desk.now.ages c.args.desk.now.files.items c.args.desk.now.marks.items) c.requires.attached c.requires.once c.requires.kept }

pub part_one-requires : goal.part_one-requires
part_one-requires g c = record {
  fits = fits-now c.args.plan.now (caller_of c.args.plan.now c.args.desk.now.number c.args.desk.now.recipe) (caller_of c.args.plan.now c.loop-number.desk.number c.loop-number.desk.recipe) (g.R.Registrar.holder c.args.registrar.now).opening (g.R.Registrar.holder c.loop-number.registrar).opening c.loop-number.invariant.caller c.loop-number.invariant.opening c.requires.fits;
  built = built-now (caller_of c.args.plan.now c.args.desk.now.number c.args.desk.now.recipe) (caller_of c.args.plan.now c.loop-number.desk.number c.loop-number.desk.recipe) (scheme_of c.args.desk.now.guest.at c.args.desk.now.guest.limits) (scheme_of c.loop-number.desk.guest.at c.loop-number.desk.guest.limits) (process_of c.args.desk.now.guest.at (g.B.Book.ledger c.args.desk.now.guest.book)) (process_of c.loop-number.desk.guest.at (g.B.Book.ledger c.loop-number.desk.guest.book)) c.loop-number.invariant.caller c.loop-number.invariant.scheme c.loop-number.invariant.rest.becomes c.requires.built;
  attached = first-attached c.args.numbers.now c.loop-number.number-index (g.B.Book.ledger c.loop-number.desk.guest.book) (omega arith) c.loop-number.invariant.rest.attached;
  holds = first-held c.args.plan.now (caller_of c.args.plan.now c.args.desk.now.number c.args.desk.now.recipe) (caller_of c.args.plan.now c.loop-number.desk.number c.loop-number.desk.recipe) c.args.numbers.now c.loop-number.number-index (desk_of (process_of c.args.desk.now.guest.at (g.B.Book.ledger c.args.desk.now.guest.book)) (g.R.Registrar.holder c.args.registrar.now).own c.args.desk.now.ages c.args.desk.now.files.items c.args.desk.now.marks.items) (desk_of (process_of c.loop-number.desk.guest.at (g.B.Book.ledger c.loop-number.desk.guest.book)) (g.R.Registrar.holder c.loop-number.registrar).own c.loop-number.desk.ages c.loop-number.desk.files.items c.loop-number.desk.marks.items) (omega arith) c.loop-number.invariant.caller c.loop-number.invariant.rest;
}

pub loop-number-preserved : goal.loop-number-preserved
loop-number-preserved g c = record {
  caller = c.part_one.ensures.caller ∙ c.loop-number.invariant.caller;
  opening = c.part_one.ensures.opening ∙ c.loop-number.invariant.opening;
  scheme = c.part_one.ensures.scheme ∙ c.loop-number.invariant.scheme;
  entered = c.part_one.ensures.entered ∙ c.loop-number.invariant.entered;
  grows = grows-on (caller_of c.args.plan.now c.args.desk.now.number c.args.desk.now.recipe) (caller_of c.args.plan.now c.loop-number.desk.number c.loop-number.desk.recipe) (g.R.Registrar.holder c.args.registrar.now) (g.R.Registrar.holder c.loop-number.registrar) (g.R.Registrar.holder c.part_one.new.registrar) c.loop-number.invariant.caller c.loop-number.invariant.grows c.part_one.ensures.grows;
  rest = parts-next c.args.plan.now (caller_of c.args.plan.now c.args.desk.now.number c.args.desk.now.recipe) (caller_of c.args.plan.now c.loop-number.desk.number c.loop-number.desk.recipe) c.args.numbers.now c.loop-number.number-index (desk_of (process_of c.args.desk.now.guest.at (g.B.Book.ledger c.args.desk.now.guest.book)) (g.R.Registrar.holder c.args.registrar.now).own c.args.desk.now.ages c.args.desk.now.files.items c.args.desk.now.marks.items) (desk_of (process_of c.loop-number.desk.guest.at (g.B.Book.ledger c.loop-number.desk.guest.book)) (g.R.Registrar.holder c.loop-number.registrar).own c.loop-number.desk.ages c.loop-number.desk.files.items c.loop-number.desk.marks.items) (desk_of (process_of c.part_one.new.desk.guest.at (g.B.Book.ledger c.part_one.new.desk.guest.book)) (g.R.Registrar.holder c.part_one.new.registrar).own c.part_one.new.desk.ages c.part_one.new.desk.files.items c.part_one.new.desk.marks.items) (omega arith) c.loop-number.invariant.caller c.loop-number.invariant.rest c.in_ok-part_one.ensures.parts c.in_ok-part_one.ensures.kept c.in_ok-part_one.ensures.ages;
}

pub returns-clause-parts : goal.returns-clause-parts
returns-clause-parts g c = parts-end c.args.plan.now (caller_of c.args.plan.now c.args.desk.now.number c.args.desk.now.recipe) c.args.numbers.now c.loop-number.number-index (desk_of (process_of c.args.desk.now.guest.at (g.B.Book.ledger c.args.desk.now.guest.book)) (g.R.Registrar.holder c.args.registrar.now).own c.args.desk.now.ages c.args.desk.now.files.items c.args.desk.now.marks.items) (desk_of (process_of c.loop-number.desk.guest.at (g.B.Book.ledger c.loop-number.desk.guest.book)) (g.R.Registrar.holder c.loop-number.registrar).own c.loop-number.desk.ages c.loop-number.desk.files.items c.loop-number.desk.marks.items) (omega arith) c.loop-number.invariant.rest

pub returns-clause-kept : goal.returns-clause-kept
returns-clause-kept g c = parts-kept c.args.plan.now (caller_of c.args.plan.now c.args.desk.now.number c.args.desk.now.recipe) c.args.numbers.now c.loop-number.number-index (desk_of (process_of c.args.desk.now.guest.at (g.B.Book.ledger c.args.desk.now.guest.book)) (g.R.Registrar.holder c.args.registrar.now).own c.args.desk.now.ages c.args.desk.now.files.items c.args.desk.now.marks.items) (desk_of (process_of c.loop-number.desk.guest.at (g.B.Book.ledger c.loop-number.desk.guest.book)) (g.R.Registrar.holder c.loop-number.registrar).own c.loop-number.desk.ages c.loop-number.desk.files.items c.loop-number.desk.marks.items) c.loop-number.invariant.rest

pub returns-clause-let_go : goal.returns-clause-let_go
returns-clause-let_go g c = parts-let-go c.args.plan.now (caller_of c.args.plan.now c.args.desk.now.number c.args.desk.now.recipe) c.args.numbers.now c.loop-number.number-index (desk_of (process_of c.args.desk.now.guest.at (g.B.Book.ledger c.args.desk.now.guest.book)) (g.R.Registrar.holder c.args.registrar.now).own c.args.desk.now.ages c.args.desk.now.files.items c.args.desk.now.marks.items) (desk_of (process_of c.loop-number.desk.guest.at (g.B.Book.ledger c.loop-number.desk.guest.book)) (g.R.Registrar.holder c.loop-number.registrar).own c.loop-number.desk.ages c.loop-number.desk.files.items c.loop-number.desk.marks.items) (omega arith) c.loop-number.invariant.rest

pub returns-in_err-part_one-clause-grows : goal.returns-in_err-part_one-clause-grows
returns-in_err-part_one-clause-grows g c = grows-on (caller_of c.args.plan.now c.args.desk.now.number c.args.desk.now.recipe) (caller_of c.args.plan.now c.loop-number.desk.number c.loop-number.desk.recipe) (g.R.Registrar.holder c.args.registrar.now) (g.R.Registrar.holder c.loop-number.registrar) (g.R.Registrar.holder c.part_one.new.registrar) c.loop-number.invariant.caller c.loop-number.invariant.grows c.part_one.ensures.grows

pub returns-clause-grows : goal.returns-clause-grows
returns-clause-grows g c = c.loop-number.invariant.grows
