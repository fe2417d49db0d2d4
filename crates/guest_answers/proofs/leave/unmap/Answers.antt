use Rattle.std.proofs.Common.{◌∙◌, refl, sym, arith}
use Rattle.guest_proc.specs.Kept.{process_of, scheme_of}
use Rattle.guest_answers.specs.Plan.{caller_of}
use Rattle.guest_answers.specs.Desk.{desk_of}
use Rattle.guest_answers.proofs.Unmapping.{file-within, has-file, its-attached, its-once, mapped-stands, row-there, stands-at, still-placed, unmap-answers, unmap-keeps}
use Rattle.guest_answers.proofs.leave.unmap.Goals as goal

pub unreachable-requires : goal.unreachable-requires
unreachable-requires g c = has-file c.args.desk.now.guest.at.io.mapped c.args.number c.requires.asks (sym c.in_default.is ∙ c.file_of.ensures)

pub part_all-requires-clause-attached : goal.part_all-requires-clause-attached
part_all-requires-clause-attached g c = its-attached c.args.number (g.B.Book.ledger c.args.desk.now.guest.book) c.deref.result.now (c.deref.ensures.value ∙ c.in_ok-numbers.ensures)

pub part_all-requires-clause-once : goal.part_all-requires-clause-once
part_all-requires-clause-once g c = its-once c.args.number (g.B.Book.ledger c.args.desk.now.guest.book) c.deref.result.now (c.deref.ensures.value ∙ c.in_ok-numbers.ensures)

pub base_of-base-requires : goal.base_of-base-requires
base_of-base-requires g c = row-there c.args.plan.now c.args.number c.in-Some.file (process_of c.args.desk.now.guest.at (g.B.Book.ledger c.args.desk.now.guest.book)) (mapped-stands c.args.plan.now c.args.number c.in-Some.file (process_of c.args.desk.now.guest.at (g.B.Book.ledger c.args.desk.now.guest.book)) c.requires.kept.hosted (sym c.in-Some.is ∙ c.file_of.ensures))

pub elf_of-requires : goal.elf_of-requires
elf_of-requires g c = file-within c.args.plan.now c.args.number c.in-Some.file (process_of c.args.desk.now.guest.at (g.B.Book.ledger c.args.desk.now.guest.book)) (mapped-stands c.args.plan.now c.args.number c.in-Some.file (process_of c.args.desk.now.guest.at (g.B.Book.ledger c.args.desk.now.guest.book)) c.requires.kept.hosted (sym c.in-Some.is ∙ c.file_of.ensures))

pub unplace-requires-clause-few : goal.unplace-requires-clause-few
unplace-requires-clause-few g c = omega (arith, row-there c.args.plan.now c.args.number c.in-Some.file (process_of c.args.desk.now.guest.at (g.B.Book.ledger c.args.desk.now.guest.book)) (mapped-stands c.args.plan.now c.args.number c.in-Some.file (process_of c.args.desk.now.guest.at (g.B.Book.ledger c.args.desk.now.guest.book)) c.requires.kept.hosted (sym c.in-Some.is ∙ c.file_of.ensures)), c.requires.fits.few)

pub unplace-requires-clause-top : goal.unplace-requires-clause-top
unplace-requires-clause-top g c = stands-at c.args.plan.now c.args.number c.in-Some.file c.base_of-base.result c.elf_of.result.now (process_of c.args.desk.now.guest.at (g.B.Book.ledger c.args.desk.now.guest.book)) (mapped-stands c.args.plan.now c.args.number c.in-Some.file (process_of c.args.desk.now.guest.at (g.B.Book.ledger c.args.desk.now.guest.book)) c.requires.kept.hosted (sym c.in-Some.is ∙ c.file_of.ensures)) c.base_of-base.ensures c.elf_of.ensures

pub unplace-requires-clause-placed : goal.unplace-requires-clause-placed
unplace-requires-clause-placed g c = still-placed c.args.plan.now c.args.number c.in-Some.file c.base_of-base.result c.elf_of.result.now (process_of c.args.desk.now.guest.at (g.B.Book.ledger c.args.desk.now.guest.book)) (process_of c.part_all.new.desk.guest.at (g.B.Book.ledger c.part_all.new.desk.guest.book)) _ c.in_ok-part_all.ensures.kept.hosted c.in_ok-part_all.ensures.parts.becomes (sym c.in-Some.is ∙ c.file_of.ensures) c.base_of-base.ensures c.elf_of.ensures

pub returns-clause-answers : goal.returns-clause-answers
returns-clause-answers g c =
    unmap-answers c.args.plan.now (scheme_of c.args.desk.now.guest.at c.args.desk.now.guest.limits) (caller_of c.args.plan.now c.args.desk.now.number c.args.desk.now.recipe) c.args.number c.in-Some.file c.base_of-base.result c.elf_of.result.now c.deref.result.now
    (desk_of (process_of c.args.desk.now.guest.at (g.B.Book.ledger c.args.desk.now.guest.book)) (g.R.Registrar.holder c.args.registrar.now).own c.args.desk.now.ages c.args.desk.now.files.items c.args.desk.now.marks.items) (desk_of (process_of c.part_all.new.desk.guest.at (g.B.Book.ledger c.part_all.new.desk.guest.book)) (g.R.Registrar.holder c.part_all.new.registrar).own c.part_all.new.desk.ages c.part_all.new.desk.files.items c.part_all.new.desk.marks.items) (desk_of (process_of c.answer.new.self.at (g.B.Book.ledger c.answer.new.self.book)) (g.R.Registrar.holder c.part_all.new.registrar).own c.part_all.new.desk.ages c.part_all.new.desk.files.items c.part_all.new.desk.marks.items) (process_of c.unplace.new.self.at (g.B.Book.ledger c.unplace.new.self.book))
    (sym c.in-Some.is ∙ c.file_of.ensures) c.base_of-base.ensures c.elf_of.ensures (c.deref.ensures.value ∙ c.in_ok-numbers.ensures) c.in_ok-part_all.ensures.parts refl c.unplace.ensures.becomes c.answer.ensures.becomes

pub returns-clause-kept : goal.returns-clause-kept
returns-clause-kept g c =
    unmap-keeps c.args.plan.now (caller_of c.args.plan.now c.args.desk.now.number c.args.desk.now.recipe) c.args.number c.in-Some.file c.base_of-base.result c.elf_of.result.now c.deref.result.now
    (desk_of (process_of c.args.desk.now.guest.at (g.B.Book.ledger c.args.desk.now.guest.book)) (g.R.Registrar.holder c.args.registrar.now).own c.args.desk.now.ages c.args.desk.now.files.items c.args.desk.now.marks.items) (desk_of (process_of c.part_all.new.desk.guest.at (g.B.Book.ledger c.part_all.new.desk.guest.book)) (g.R.Registrar.holder c.part_all.new.registrar).own c.part_all.new.desk.ages c.part_all.new.desk.files.items c.part_all.new.desk.marks.items) (desk_of (process_of c.answer.new.self.at (g.B.Book.ledger c.answer.new.self.book)) (g.R.Registrar.holder c.part_all.new.registrar).own c.part_all.new.desk.ages c.part_all.new.desk.files.items c.part_all.new.desk.marks.items) (process_of c.unplace.new.self.at (g.B.Book.ledger c.unplace.new.self.book))
    (sym c.in-Some.is ∙ c.file_of.ensures) c.base_of-base.ensures c.elf_of.ensures (c.deref.ensures.value ∙ c.in_ok-numbers.ensures) c.in_ok-part_all.ensures.parts c.in_ok-part_all.ensures.kept c.in_ok-part_all.ensures.let_go refl c.unplace.ensures.becomes c.answer.ensures.becomes
