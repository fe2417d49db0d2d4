use Rattle.std.proofs.Common.{refl, ◌∙◌, ap, arith}
use Rattle.std.specs.Prelude.{find}
use Rattle.plain_machine.specs.Calls.{is_module}
use Rattle.block_ledger.specs.Ledger.{segment_of}
use Rattle.block_ledger.specs.Traced.{codes_of}
use Rattle.guest_proc.specs.Kept.{process_of, scheme_of}
use Rattle.guest_proc.specs.Process.{Process}
use Rattle.guest_answers.specs.Plan.{caller_of}
use Rattle.guest_answers.specs.Desk.{desk_of}
use Rattle.guest_answers.proofs.Growing.{grows-none, grows-on}
use Rattle.guest_answers.proofs.Attaching.{count-codes}
use Rattle.guest_answers.proofs.Walking.{attaches-first, attaches-last, attaches-next, built-now, fits-now, kept-next, one-now, unheld-next}
use Rattle.guest_answers.proofs.attach.attach_all.Goals as goal

pub loop-seg-init : goal.loop-seg-init
loop-seg-init g c = record {
  caller = refl;
  opening = refl;
  scheme = refl;
  entered = refl;
  grows = grows-none c.args.desk.now.number (g.R.Registrar.holder c.args.registrar.now) (g.R.Registrar.holder c.args.registrar.now) refl;
  rest = attaches-first (scheme_of c.args.desk.now.guest.at c.args.desk.now.guest.limits) (caller_of c.args.plan.now c.args.desk.now.number c.args.desk.now.recipe) c.args.module c.args.file (codes_of c.args.elf.now c.args.base) (desk_of (process_of c.args.desk.now.guest.at (g.B.Book.ledger c.args.desk.now.guest.book)) (g.R.Registrar.holder c.args.registrar.now).own c.args.desk.now.ages c.args.desk.now.files.items c.args.desk.now.marks.items) c.requires.there c.requires.clear c.requires.apart;
  unheld = λ s more small. c.requires.unheld s small;
  kept = λ gone kept. kept;
}

pub attach_one-requires : goal.attach_one-requires
attach_one-requires g c = record {
  fits = fits-now c.args.plan.now (caller_of c.args.plan.now c.args.desk.now.number c.args.desk.now.recipe) (caller_of c.args.plan.now c.loop-seg.desk.number c.loop-seg.desk.recipe) (g.R.Registrar.holder c.args.registrar.now).opening (g.R.Registrar.holder c.loop-seg.registrar).opening c.loop-seg.invariant.caller c.loop-seg.invariant.opening c.requires.fits;
  built = built-now (caller_of c.args.plan.now c.args.desk.now.number c.args.desk.now.recipe) (caller_of c.args.plan.now c.loop-seg.desk.number c.loop-seg.desk.recipe) (scheme_of c.args.desk.now.guest.at c.args.desk.now.guest.limits) (scheme_of c.loop-seg.desk.guest.at c.loop-seg.desk.guest.limits) (process_of c.args.desk.now.guest.at (g.B.Book.ledger c.args.desk.now.guest.book)) (process_of c.loop-seg.desk.guest.at (g.B.Book.ledger c.loop-seg.desk.guest.book)) c.loop-seg.invariant.caller c.loop-seg.invariant.scheme c.loop-seg.invariant.rest.becomes c.requires.built;
  known = c.requires.known;
  stands = c.requires.stands;
  seg = omega (arith, c.code_count-seg-end.ensures.few, c.loop-seg-test.true);
  within = omega (arith, count-codes c.args.elf.now c.args.base, c.code_count-seg-end.ensures.count, c.loop-seg-test.true);
  top = c.requires.top;
  there = c.loop-seg.invariant.rest.there;
  clear = c.loop-seg.invariant.rest.clear;
  unheld = c.loop-seg.invariant.unheld c.loop-seg.seg (omega arith) (omega (arith, c.code_count-seg-end.ensures.few, c.loop-seg-test.true));
  mapped = ap (λ (p : Process). find (is_module c.args.module) p.state.io.mapped) c.loop-seg.invariant.rest.becomes ∙ c.requires.mapped;
}

pub loop-seg-preserved : goal.loop-seg-preserved
loop-seg-preserved g c = record {
  caller = c.attach_one.ensures.caller ∙ c.loop-seg.invariant.caller;
  opening = c.attach_one.ensures.opening ∙ c.loop-seg.invariant.opening;
  scheme = c.attach_one.ensures.scheme ∙ c.loop-seg.invariant.scheme;
  entered = c.attach_one.ensures.entered ∙ c.loop-seg.invariant.entered;
  grows = grows-on (caller_of c.args.plan.now c.args.desk.now.number c.args.desk.now.recipe) (caller_of c.args.plan.now c.loop-seg.desk.number c.loop-seg.desk.recipe) (g.R.Registrar.holder c.args.registrar.now) (g.R.Registrar.holder c.loop-seg.registrar) (g.R.Registrar.holder c.attach_one.new.registrar) c.loop-seg.invariant.caller c.loop-seg.invariant.grows c.attach_one.ensures.grows;
  rest = attaches-next (scheme_of c.args.desk.now.guest.at c.args.desk.now.guest.limits) (caller_of c.args.plan.now c.args.desk.now.number c.args.desk.now.recipe) c.args.module c.loop-seg.seg c.args.file (codes_of c.args.elf.now c.args.base) (desk_of (process_of c.args.desk.now.guest.at (g.B.Book.ledger c.args.desk.now.guest.book)) (g.R.Registrar.holder c.args.registrar.now).own c.args.desk.now.ages c.args.desk.now.files.items c.args.desk.now.marks.items) (desk_of (process_of c.loop-seg.desk.guest.at (g.B.Book.ledger c.loop-seg.desk.guest.book)) (g.R.Registrar.holder c.loop-seg.registrar).own c.loop-seg.desk.ages c.loop-seg.desk.files.items c.loop-seg.desk.marks.items) (desk_of (process_of c.attach_one.new.desk.guest.at (g.B.Book.ledger c.attach_one.new.desk.guest.book)) (g.R.Registrar.holder c.attach_one.new.registrar).own c.attach_one.new.desk.ages c.attach_one.new.desk.files.items c.attach_one.new.desk.marks.items) c.loop-seg.invariant.rest
      (one-now (caller_of c.args.plan.now c.args.desk.now.number c.args.desk.now.recipe) (caller_of c.args.plan.now c.loop-seg.desk.number c.loop-seg.desk.recipe) (scheme_of c.args.desk.now.guest.at c.args.desk.now.guest.limits) (scheme_of c.loop-seg.desk.guest.at c.loop-seg.desk.guest.limits) c.args.module c.loop-seg.seg c.args.file (codes_of c.args.elf.now c.args.base) (desk_of (process_of c.loop-seg.desk.guest.at (g.B.Book.ledger c.loop-seg.desk.guest.book)) (g.R.Registrar.holder c.loop-seg.registrar).own c.loop-seg.desk.ages c.loop-seg.desk.files.items c.loop-seg.desk.marks.items) (desk_of (process_of c.attach_one.new.desk.guest.at (g.B.Book.ledger c.attach_one.new.desk.guest.book)) (g.R.Registrar.holder c.attach_one.new.registrar).own c.attach_one.new.desk.ages c.attach_one.new.desk.files.items c.attach_one.new.desk.marks.items) c.loop-seg.invariant.caller c.loop-seg.invariant.scheme c.in_ok-attach_one.ensures.attaches);
  unheld = unheld-next (scheme_of c.loop-seg.desk.guest.at c.loop-seg.desk.guest.limits) (caller_of c.args.plan.now c.loop-seg.desk.number c.loop-seg.desk.recipe) c.args.module c.loop-seg.seg c.args.file (codes_of c.args.elf.now c.args.base) (desk_of (process_of c.loop-seg.desk.guest.at (g.B.Book.ledger c.loop-seg.desk.guest.book)) (g.R.Registrar.holder c.loop-seg.registrar).own c.loop-seg.desk.ages c.loop-seg.desk.files.items c.loop-seg.desk.marks.items) (desk_of (process_of c.attach_one.new.desk.guest.at (g.B.Book.ledger c.attach_one.new.desk.guest.book)) (g.R.Registrar.holder c.attach_one.new.registrar).own c.attach_one.new.desk.ages c.attach_one.new.desk.files.items c.attach_one.new.desk.marks.items) c.in_ok-attach_one.ensures.attaches c.loop-seg.invariant.unheld;
  kept = λ gone kept. kept-next c.args.plan.now (caller_of c.args.plan.now c.args.desk.now.number c.args.desk.now.recipe) (caller_of c.args.plan.now c.loop-seg.desk.number c.loop-seg.desk.recipe) (segment_of c.args.module c.loop-seg.seg) (desk_of (process_of c.loop-seg.desk.guest.at (g.B.Book.ledger c.loop-seg.desk.guest.book)) (g.R.Registrar.holder c.loop-seg.registrar).own c.loop-seg.desk.ages c.loop-seg.desk.files.items c.loop-seg.desk.marks.items) (desk_of (process_of c.attach_one.new.desk.guest.at (g.B.Book.ledger c.attach_one.new.desk.guest.book)) (g.R.Registrar.holder c.attach_one.new.registrar).own c.attach_one.new.desk.ages c.attach_one.new.desk.files.items c.attach_one.new.desk.marks.items) c.loop-seg.invariant.caller c.in_ok-attach_one.ensures.kept c.in_ok-attach_one.ensures.holds gone (c.loop-seg.invariant.kept gone kept);
}

pub returns-clause-attaches : goal.returns-clause-attaches
returns-clause-attaches g c =
    attaches-last (scheme_of c.args.desk.now.guest.at c.args.desk.now.guest.limits) (caller_of c.args.plan.now c.args.desk.now.number c.args.desk.now.recipe) c.args.module c.loop-seg.seg c.args.file (codes_of c.args.elf.now c.args.base) (desk_of (process_of c.args.desk.now.guest.at (g.B.Book.ledger c.args.desk.now.guest.book)) (g.R.Registrar.holder c.args.registrar.now).own c.args.desk.now.ages c.args.desk.now.files.items c.args.desk.now.marks.items) (desk_of (process_of c.loop-seg.desk.guest.at (g.B.Book.ledger c.loop-seg.desk.guest.book)) (g.R.Registrar.holder c.loop-seg.registrar).own c.loop-seg.desk.ages c.loop-seg.desk.files.items c.loop-seg.desk.marks.items)
    (omega (arith, count-codes c.args.elf.now c.args.base, c.code_count-seg-end.ensures.count)) c.loop-seg.invariant.rest

pub returns-in_err-attach_one-clause-grows : goal.returns-in_err-attach_one-clause-grows
returns-in_err-attach_one-clause-grows g c = grows-on (caller_of c.args.plan.now c.args.desk.now.number c.args.desk.now.recipe) (caller_of c.args.plan.now c.loop-seg.desk.number c.loop-seg.desk.recipe) (g.R.Registrar.holder c.args.registrar.now) (g.R.Registrar.holder c.loop-seg.registrar) (g.R.Registrar.holder c.attach_one.new.registrar) c.loop-seg.invariant.caller c.loop-seg.invariant.grows c.attach_one.ensures.grows

pub returns-clause-grows : goal.returns-clause-grows
returns-clause-grows g c = c.loop-seg.invariant.grows
