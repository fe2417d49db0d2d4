use Rattle.std.proofs.Common.{◌≡◌, ◌<◌, ◌/◌, ◌%◌, refl, sym, ◌∙◌, ap, subst, length, arith}
use Rattle.std.specs.Arc.{arc_value}
use Rattle.std.specs.FinMap as fin
use Rattle.std.proofs.lemmas.Result.{on_ok_weaker}
use Rattle.unit_set.specs.Held.{Held, IsHeld}
use Rattle.block_book.specs.Clauses.{blocks_of}
use Rattle.block_ledger.specs.Ledger.{segment_of}
use Rattle.block_ledger.specs.Traced.{codes_of}
use Rattle.registry.specs.Content.{content_of}
use Rattle.registrar.specs.Calls.{Holder}
use Rattle.guest_script.specs.Script.{IsSlotOf}
use Rattle.guest_proc.specs.Kept.{process_of, scheme_of}
use Rattle.guest_answers.specs.Plan.{caller_of}
use Rattle.guest_answers.proofs.Attaching.{UnitFits, attach-holds, attach-keeps, attaches-one, first-clear, first-there, may-attach, row-number, row-within, seg-few, slot-shows, unit-fits, within-texts}
use Rattle.guest_answers.proofs.attach.attach_one.Goals as goal

pub number_of-number-requires : goal.number_of-number-requires
number_of-number-requires g c = record { few = omega (arith, row-within c.args.plan.now c.args.module c.args.base c.requires.stands, c.requires.fits.few); seg = c.requires.seg }

pub slot_of-slot-requires : goal.slot_of-slot-requires
slot_of-slot-requires g c = record {
  few = c.requires.fits.few;
  row = subst (λ n. n / 4 < length c.args.plan.now.modules) (sym c.number_of-number.ensures) (row-number c.args.plan.now c.args.module c.args.seg c.args.base c.requires.seg c.requires.stands);
  seg = subst (λ n. n % 4 < c.args.plan.now.layout.segs) (sym c.number_of-number.ensures) (seg-few c.args.plan.now _ _ c.args.module c.args.seg c.args.file c.args.base c.args.elf.now c.requires.fits c.requires.seg c.requires.known c.requires.within);
  listed = c.requires.fits.listed;
}

pub code-requires : goal.code-requires
code-requires g c = within-texts c.args.elf.now c.args.base c.args.seg c.requires.within

pub attach-requires : goal.attach-requires
attach-requires g c =
    let its : IsSlotOf (caller_of c.args.plan.now c.args.desk.now.number c.args.desk.now.recipe) (segment_of c.args.module c.args.seg) c.slot_of-slot.result =
    subst (λ n. IsSlotOf (caller_of c.args.plan.now c.args.desk.now.number c.args.desk.now.recipe) n c.slot_of-slot.result) c.number_of-number.ensures (c.slot_of-slot.ensures c.args.desk.now.number) in
    may-attach (g.R.Registrar.holder c.args.registrar.now).opening c.slot_of-slot.result c.args.seg c.args.file c.args.base c.args.elf.now c.in_ok-code.field-0
    (slot-shows c.args.plan.now c.args.desk.now.number c.args.desk.now.recipe (g.R.Registrar.holder c.args.registrar.now).opening c.args.module c.args.seg c.slot_of-slot.result c.args.file c.args.base c.args.elf.now c.in_ok-code.field-0 c.requires.seg c.requires.fits its c.requires.known c.requires.stands c.in_ok-code.ensures.code)
    (within-texts c.args.elf.now c.args.base c.args.seg c.requires.within)
    (omega (arith, c.in_ok-code.ensures.end c.args.base, c.requires.top))

pub attach-requires-2 : goal.attach-requires-2
attach-requires-2 g c =
    let u : Held = arc_value c.in_ok-attached.attached.unit in
    let its : IsSlotOf (caller_of c.args.plan.now c.args.desk.now.number c.args.desk.now.recipe) (segment_of c.args.module c.args.seg) c.slot_of-slot.result =
    subst (λ n. IsSlotOf (caller_of c.args.plan.now c.args.desk.now.number c.args.desk.now.recipe) n c.slot_of-slot.result) c.number_of-number.ensures (c.slot_of-slot.ensures c.args.desk.now.number) in
    let fits : UnitFits (scheme_of c.args.desk.now.guest.at c.args.desk.now.guest.limits) (caller_of c.args.plan.now c.args.desk.now.number c.args.desk.now.recipe) (segment_of c.args.module c.args.seg) c.args.seg c.slot_of-slot.result its (codes_of c.args.elf.now c.args.base) (process_of c.args.desk.now.guest.at (g.B.Book.ledger c.args.desk.now.guest.book)) u =
    unit-fits (scheme_of c.args.desk.now.guest.at c.args.desk.now.guest.limits) c.args.plan.now c.args.desk.now.number c.args.desk.now.recipe (g.R.Registrar.holder c.args.registrar.now).opening c.args.module c.args.seg c.slot_of-slot.result c.args.file c.args.base c.args.elf.now c.in_ok-code.field-0 (process_of c.args.desk.now.guest.at (g.B.Book.ledger c.args.desk.now.guest.book)) u
    c.requires.seg c.requires.fits its c.requires.known c.requires.stands c.in_ok-code.ensures.code c.requires.built c.in_ok-attached.ensures.slot c.in_ok-attached.ensures.image in
    let there = first-there c.args.desk.now.guest.at.mem _ u.image _ fits.next c.requires.there in
    let clear = first-clear (g.B.Book.ledger c.args.desk.now.guest.book) _ u.image _ fits.next c.requires.clear in
    record {
      few = omega (arith, row-within c.args.plan.now c.args.module c.args.base c.requires.stands, c.requires.fits.few);
      seg = c.requires.seg;
      some = there.0;
      there = there.1;
      isa = fits.isa;
      tool = fits.tool;
      max = fits.max;
      clear = clear.0;
    }

pub returns-clause-attaches : goal.returns-clause-attaches
returns-clause-attaches g c =
    let u : Held = arc_value c.in_ok-attached.attached.unit in
    let its : IsSlotOf (caller_of c.args.plan.now c.args.desk.now.number c.args.desk.now.recipe) (segment_of c.args.module c.args.seg) c.slot_of-slot.result =
    subst (λ n. IsSlotOf (caller_of c.args.plan.now c.args.desk.now.number c.args.desk.now.recipe) n c.slot_of-slot.result) c.number_of-number.ensures (c.slot_of-slot.ensures c.args.desk.now.number) in
    let fits : UnitFits (scheme_of c.args.desk.now.guest.at c.args.desk.now.guest.limits) (caller_of c.args.plan.now c.args.desk.now.number c.args.desk.now.recipe) (segment_of c.args.module c.args.seg) c.args.seg c.slot_of-slot.result its (codes_of c.args.elf.now c.args.base) (process_of c.args.desk.now.guest.at (g.B.Book.ledger c.args.desk.now.guest.book)) u =
    unit-fits (scheme_of c.args.desk.now.guest.at c.args.desk.now.guest.limits) c.args.plan.now c.args.desk.now.number c.args.desk.now.recipe (g.R.Registrar.holder c.args.registrar.now).opening c.args.module c.args.seg c.slot_of-slot.result c.args.file c.args.base c.args.elf.now c.in_ok-code.field-0 (process_of c.args.desk.now.guest.at (g.B.Book.ledger c.args.desk.now.guest.book)) u
    c.requires.seg c.requires.fits its c.requires.known c.requires.stands c.in_ok-code.ensures.code c.requires.built c.in_ok-attached.ensures.slot c.in_ok-attached.ensures.image in
    let held : IsHeld u.slot u.image u.frags = subst (λ (x : Held). IsHeld x.slot x.image x.frags) c.deref.ensures c.is_held.ensures in
    let ages : c.insert.new.self ≡ fin.insert c.args.desk.now.ages (segment_of c.args.module c.args.seg) c.in_ok-attached.attached.age =
    c.in_ok-insert.ensures.ok ∙ ap (λ n. fin.insert c.args.desk.now.ages n c.in_ok-attached.attached.age) c.number_of-number.ensures in
    on_ok_weaker c.attach-2.result
    (λ becomes. attaches-one (scheme_of c.args.desk.now.guest.at c.args.desk.now.guest.limits) (caller_of c.args.plan.now c.args.desk.now.number c.args.desk.now.recipe) c.args.module c.args.seg c.args.file c.slot_of-slot.result c.in_ok-attached.attached.age c.in_ok-attached.attached.version (codes_of c.args.elf.now c.args.base) u
    (process_of c.args.desk.now.guest.at (g.B.Book.ledger c.args.desk.now.guest.book)) (process_of c.attach-2.new.self.at (g.B.Book.ledger c.attach-2.new.self.book)) (g.R.Registrar.holder c.args.registrar.now).own (g.R.Registrar.holder c.attach.new.self).own c.args.desk.now.ages c.insert.new.self c.args.desk.now.files.items c.args.desk.now.marks.items c.mark.new.marks.items
    c.units_are_built.ensures held fits.isa fits.tool fits.max its fits.next (ap (λ (h : Holder). h.own) c.in_ok-attached.ensures.ok) ages c.in_ok-mark.ensures.marked becomes)
    c.attach-2.ensures.attached

pub returns-clause-kept : goal.returns-clause-kept
returns-clause-kept g c =
    let u : Held = arc_value c.in_ok-attached.attached.unit in
    let its : IsSlotOf (caller_of c.args.plan.now c.args.desk.now.number c.args.desk.now.recipe) (segment_of c.args.module c.args.seg) c.slot_of-slot.result =
    subst (λ n. IsSlotOf (caller_of c.args.plan.now c.args.desk.now.number c.args.desk.now.recipe) n c.slot_of-slot.result) c.number_of-number.ensures (c.slot_of-slot.ensures c.args.desk.now.number) in
    let fits : UnitFits (scheme_of c.args.desk.now.guest.at c.args.desk.now.guest.limits) (caller_of c.args.plan.now c.args.desk.now.number c.args.desk.now.recipe) (segment_of c.args.module c.args.seg) c.args.seg c.slot_of-slot.result its (codes_of c.args.elf.now c.args.base) (process_of c.args.desk.now.guest.at (g.B.Book.ledger c.args.desk.now.guest.book)) u =
    unit-fits (scheme_of c.args.desk.now.guest.at c.args.desk.now.guest.limits) c.args.plan.now c.args.desk.now.number c.args.desk.now.recipe (g.R.Registrar.holder c.args.registrar.now).opening c.args.module c.args.seg c.slot_of-slot.result c.args.file c.args.base c.args.elf.now c.in_ok-code.field-0 (process_of c.args.desk.now.guest.at (g.B.Book.ledger c.args.desk.now.guest.book)) u
    c.requires.seg c.requires.fits its c.requires.known c.requires.stands c.in_ok-code.ensures.code c.requires.built c.in_ok-attached.ensures.slot c.in_ok-attached.ensures.image in
    let ages : c.insert.new.self ≡ fin.insert c.args.desk.now.ages (segment_of c.args.module c.args.seg) c.in_ok-attached.attached.age =
    c.in_ok-insert.ensures.ok ∙ ap (λ n. fin.insert c.args.desk.now.ages n c.in_ok-attached.attached.age) c.number_of-number.ensures in
    on_ok_weaker c.attach-2.result
    (λ becomes. attach-keeps c.args.plan.now (caller_of c.args.plan.now c.args.desk.now.number c.args.desk.now.recipe) c.args.module c.args.seg c.slot_of-slot.result c.args.file c.in_ok-attached.attached.age c.in_ok-attached.attached.version c.args.base c.args.elf.now u.image (blocks_of u.frags) (content_of u)
    (process_of c.args.desk.now.guest.at (g.B.Book.ledger c.args.desk.now.guest.book)) (process_of c.attach-2.new.self.at (g.B.Book.ledger c.attach-2.new.self.book)) (g.R.Registrar.holder c.args.registrar.now).own (g.R.Registrar.holder c.attach.new.self).own c.args.desk.now.ages c.insert.new.self c.args.desk.now.files.items c.args.desk.now.marks.items c.mark.new.marks.items
    c.requires.seg c.requires.fits.apart c.requires.fits.names its c.requires.unheld c.requires.mapped c.requires.stands c.requires.known fits.next (ap (λ (h : Holder). h.own) c.in_ok-attached.ensures.ok) ages becomes)
    c.attach-2.ensures.attached

pub returns-clause-holds : goal.returns-clause-holds
returns-clause-holds g c = λ covered.
    let u : Held = arc_value c.in_ok-attached.attached.unit in
    let its : IsSlotOf (caller_of c.args.plan.now c.args.desk.now.number c.args.desk.now.recipe) (segment_of c.args.module c.args.seg) c.slot_of-slot.result =
    subst (λ n. IsSlotOf (caller_of c.args.plan.now c.args.desk.now.number c.args.desk.now.recipe) n c.slot_of-slot.result) c.number_of-number.ensures (c.slot_of-slot.ensures c.args.desk.now.number) in
    let fits : UnitFits (scheme_of c.args.desk.now.guest.at c.args.desk.now.guest.limits) (caller_of c.args.plan.now c.args.desk.now.number c.args.desk.now.recipe) (segment_of c.args.module c.args.seg) c.args.seg c.slot_of-slot.result its (codes_of c.args.elf.now c.args.base) (process_of c.args.desk.now.guest.at (g.B.Book.ledger c.args.desk.now.guest.book)) u =
    unit-fits (scheme_of c.args.desk.now.guest.at c.args.desk.now.guest.limits) c.args.plan.now c.args.desk.now.number c.args.desk.now.recipe (g.R.Registrar.holder c.args.registrar.now).opening c.args.module c.args.seg c.slot_of-slot.result c.args.file c.args.base c.args.elf.now c.in_ok-code.field-0 (process_of c.args.desk.now.guest.at (g.B.Book.ledger c.args.desk.now.guest.book)) u
    c.requires.seg c.requires.fits its c.requires.known c.requires.stands c.in_ok-code.ensures.code c.requires.built c.in_ok-attached.ensures.slot c.in_ok-attached.ensures.image in
    let ages : c.insert.new.self ≡ fin.insert c.args.desk.now.ages (segment_of c.args.module c.args.seg) c.in_ok-attached.attached.age =
    c.in_ok-insert.ensures.ok ∙ ap (λ n. fin.insert c.args.desk.now.ages n c.in_ok-attached.attached.age) c.number_of-number.ensures in
    on_ok_weaker c.attach-2.result
    (λ becomes. attach-holds c.args.plan.now (caller_of c.args.plan.now c.args.desk.now.number c.args.desk.now.recipe) (segment_of c.args.module c.args.seg) c.slot_of-slot.result c.args.file c.in_ok-attached.attached.age c.in_ok-attached.attached.version u.image (blocks_of u.frags) (content_of u)
    (process_of c.args.desk.now.guest.at (g.B.Book.ledger c.args.desk.now.guest.book)) (process_of c.attach-2.new.self.at (g.B.Book.ledger c.attach-2.new.self.book)) (g.R.Registrar.holder c.args.registrar.now).own (g.R.Registrar.holder c.attach.new.self).own c.args.desk.now.ages c.insert.new.self c.args.desk.now.files.items c.mark.new.marks.items
    its (seg-few c.args.plan.now (caller_of c.args.plan.now c.args.desk.now.number c.args.desk.now.recipe) _ c.args.module c.args.seg c.args.file c.args.base c.args.elf.now c.requires.fits c.requires.seg c.requires.known c.requires.within)
    fits.named refl (ap (λ (h : Holder). h.own) c.in_ok-attached.ensures.ok) ages becomes covered)
    c.attach-2.ensures.attached
