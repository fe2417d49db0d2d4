use Rattle.std.proofs.Common.{true, false, [], refl, ap, subst}
use Rattle.block_ledger.specs.Traced.{codes_of}
use Rattle.registry.specs.declared.entry.Entry.TheVariants.{Map}
use Rattle.registrar.specs.Calls.{Holder, plain}
use Rattle.guest_proc.specs.Kept.{process_of, scheme_of}
use Rattle.guest_proc.specs.Maps.{Enters}
use Rattle.guest_answers.specs.Plan.{caller_of}
use Rattle.guest_answers.specs.Desk.{IsKept, desk_of}
use Rattle.guest_answers.specs.Makes.{AttachesAll}
use Rattle.guest_answers.proofs.Growing.{grows-behind}
use Rattle.guest_answers.proofs.Starting.{begins-now, cannot-begin, entered-apart, entered-kept, entered-mapped, has-file-told, none-unheld, refused-even}
use Rattle.guest_answers.proofs.Evening.{map-quiet}
use Rattle.guest_answers.proofs.start.begin.Goals as goal

pub unreachable-requires : goal.unreachable-requires
unreachable-requires g c = has-file-told c.args.plan.now (caller_of c.args.plan.now c.args.desk.now.number c.args.desk.now.recipe) (g.R.Registrar.holder c.args.registrar.now).opening c.args.number c.in_ok-file.field-0 c.requires.fits c.in_ok-file.ensures.mapped c.requires.known c.in_default.is

pub returns-then-not-branch-clause-starts : goal.returns-then-not-branch-clause-starts
returns-then-not-branch-clause-starts g c =
    let enters : Enters c.elf_of-elf.result.now c.base_of-base.result c.args.number c.in-Some.file (process_of c.args.desk.now.guest.at (g.B.Book.ledger c.args.desk.now.guest.book)) (process_of c.place.new.self.at (g.B.Book.ledger c.place.new.self.book)) false = subst (Enters c.elf_of-elf.result.now c.base_of-base.result c.args.number c.in-Some.file (process_of c.args.desk.now.guest.at (g.B.Book.ledger c.args.desk.now.guest.book)) (process_of c.place.new.self.at (g.B.Book.ledger c.place.new.self.book))) c.if-not-branch.true (c.in_ok-place.ensures.enters c.requires.first) in
    cannot-begin c.args.plan.now (caller_of c.args.plan.now c.args.desk.now.number c.args.desk.now.recipe) c.args.number c.in-Some.file c.base_of-base.result c.elf_of-elf.result.now c.in_ok-file.field-0 (process_of c.args.desk.now.guest.at (g.B.Book.ledger c.args.desk.now.guest.book)) (process_of c.place.new.self.at (g.B.Book.ledger c.place.new.self.book)) (g.R.Registrar.holder c.args.registrar.now).own (g.R.Registrar.holder c.map.new.self).own c.args.desk.now.ages c.args.desk.now.files.items c.push.new.self.items c.args.desk.now.marks.items c.mark.new.marks.items
    c.in-Some.is (ap (λ (h : Holder). h.own) c.in_ok-file.ensures.ok) c.in_ok-push.ensures.items c.in_ok-mark.ensures.marked c.base_of-base.ensures c.elf_of-elf.ensures enters

pub returns-then-not-branch-clause-even : goal.returns-then-not-branch-clause-even
returns-then-not-branch-clause-even g c = λ _. refused-even c.args.desk.now.number c.args.number c.in_ok-file.field-0 (g.R.Registrar.holder c.args.registrar.now).own (g.R.Registrar.holder c.map.new.self).own (ap (λ (h : Holder). h.own) c.in_ok-file.ensures.ok) c.requires.even

pub attach_all-requires-clause-unheld : goal.attach_all-requires-clause-unheld
attach_all-requires-clause-unheld g c = none-unheld c.args.number c.args.desk.now.ages c.requires.none

pub attach_all-requires-clause-apart : goal.attach_all-requires-clause-apart
attach_all-requires-clause-apart g c =
    let enters : Enters c.elf_of-elf.result.now c.base_of-base.result c.args.number c.in-Some.file (process_of c.args.desk.now.guest.at (g.B.Book.ledger c.args.desk.now.guest.book)) (process_of c.place.new.self.at (g.B.Book.ledger c.place.new.self.book)) true = subst (Enters c.elf_of-elf.result.now c.base_of-base.result c.args.number c.in-Some.file (process_of c.args.desk.now.guest.at (g.B.Book.ledger c.args.desk.now.guest.book)) (process_of c.place.new.self.at (g.B.Book.ledger c.place.new.self.book))) c.if-not-branch.false (c.in_ok-place.ensures.enters c.requires.first) in
    entered-apart c.elf_of-elf.result.now c.base_of-base.result c.args.number c.in-Some.file (process_of c.args.desk.now.guest.at (g.B.Book.ledger c.args.desk.now.guest.book)) (process_of c.place.new.self.at (g.B.Book.ledger c.place.new.self.book)) enters c.kept.ensures.memory

pub attach_all-requires-clause-mapped : goal.attach_all-requires-clause-mapped
attach_all-requires-clause-mapped g c =
    let enters : Enters c.elf_of-elf.result.now c.base_of-base.result c.args.number c.in-Some.file (process_of c.args.desk.now.guest.at (g.B.Book.ledger c.args.desk.now.guest.book)) (process_of c.place.new.self.at (g.B.Book.ledger c.place.new.self.book)) true = subst (Enters c.elf_of-elf.result.now c.base_of-base.result c.args.number c.in-Some.file (process_of c.args.desk.now.guest.at (g.B.Book.ledger c.args.desk.now.guest.book)) (process_of c.place.new.self.at (g.B.Book.ledger c.place.new.self.book))) c.if-not-branch.false (c.in_ok-place.ensures.enters c.requires.first) in
    entered-mapped c.elf_of-elf.result.now c.base_of-base.result c.args.number c.in-Some.file (process_of c.args.desk.now.guest.at (g.B.Book.ledger c.args.desk.now.guest.book)) (process_of c.place.new.self.at (g.B.Book.ledger c.place.new.self.book)) c.requires.bare enters

pub returns-clause-starts : goal.returns-clause-starts
returns-clause-starts g c =
    let enters : Enters c.elf_of-elf.result.now c.base_of-base.result c.args.number c.in-Some.file (process_of c.args.desk.now.guest.at (g.B.Book.ledger c.args.desk.now.guest.book)) (process_of c.place.new.self.at (g.B.Book.ledger c.place.new.self.book)) true = subst (Enters c.elf_of-elf.result.now c.base_of-base.result c.args.number c.in-Some.file (process_of c.args.desk.now.guest.at (g.B.Book.ledger c.args.desk.now.guest.book)) (process_of c.place.new.self.at (g.B.Book.ledger c.place.new.self.book))) c.if-not-branch.false (c.in_ok-place.ensures.enters c.requires.first) in
    let all : AttachesAll (scheme_of c.args.desk.now.guest.at c.args.desk.now.guest.limits) (caller_of c.args.plan.now c.args.desk.now.number c.args.desk.now.recipe) c.args.number c.in-Some.file (codes_of c.elf_of-elf.result.now c.base_of-base.result) (desk_of (process_of c.place.new.self.at (g.B.Book.ledger c.place.new.self.book)) (g.R.Registrar.holder c.map.new.self).own c.args.desk.now.ages c.push.new.self.items c.mark.new.marks.items) (desk_of (process_of c.attach_all.new.desk.guest.at (g.B.Book.ledger c.attach_all.new.desk.guest.book)) (g.R.Registrar.holder c.attach_all.new.registrar).own c.attach_all.new.desk.ages c.attach_all.new.desk.files.items c.attach_all.new.desk.marks.items) =
    subst (λ s. AttachesAll s (caller_of c.args.plan.now c.args.desk.now.number c.args.desk.now.recipe) c.args.number c.in-Some.file (codes_of c.elf_of-elf.result.now c.base_of-base.result) (desk_of (process_of c.place.new.self.at (g.B.Book.ledger c.place.new.self.book)) (g.R.Registrar.holder c.map.new.self).own c.args.desk.now.ages c.push.new.self.items c.mark.new.marks.items) (desk_of (process_of c.attach_all.new.desk.guest.at (g.B.Book.ledger c.attach_all.new.desk.guest.book)) (g.R.Registrar.holder c.attach_all.new.registrar).own c.attach_all.new.desk.ages c.attach_all.new.desk.files.items c.attach_all.new.desk.marks.items)) c.place.ensures.scheme c.in_ok-attach_all.ensures.attaches in
    begins-now c.args.plan.now (scheme_of c.args.desk.now.guest.at c.args.desk.now.guest.limits) (caller_of c.args.plan.now c.args.desk.now.number c.args.desk.now.recipe) c.args.number c.in-Some.file c.base_of-base.result c.elf_of-elf.result.now c.in_ok-file.field-0 (process_of c.args.desk.now.guest.at (g.B.Book.ledger c.args.desk.now.guest.book)) (process_of c.place.new.self.at (g.B.Book.ledger c.place.new.self.book)) (g.R.Registrar.holder c.args.registrar.now).own (g.R.Registrar.holder c.map.new.self).own c.args.desk.now.ages c.args.desk.now.files.items c.push.new.self.items c.args.desk.now.marks.items c.mark.new.marks.items (desk_of (process_of c.attach_all.new.desk.guest.at (g.B.Book.ledger c.attach_all.new.desk.guest.book)) (g.R.Registrar.holder c.attach_all.new.registrar).own c.attach_all.new.desk.ages c.attach_all.new.desk.files.items c.attach_all.new.desk.marks.items)
    c.in-Some.is (ap (λ (h : Holder). h.own) c.in_ok-file.ensures.ok) c.in_ok-push.ensures.items c.in_ok-mark.ensures.marked c.base_of-base.ensures c.elf_of-elf.ensures enters all

pub returns-clause-kept : goal.returns-clause-kept
returns-clause-kept g c =
    let enters : Enters c.elf_of-elf.result.now c.base_of-base.result c.args.number c.in-Some.file (process_of c.args.desk.now.guest.at (g.B.Book.ledger c.args.desk.now.guest.book)) (process_of c.place.new.self.at (g.B.Book.ledger c.place.new.self.book)) true = subst (Enters c.elf_of-elf.result.now c.base_of-base.result c.args.number c.in-Some.file (process_of c.args.desk.now.guest.at (g.B.Book.ledger c.args.desk.now.guest.book)) (process_of c.place.new.self.at (g.B.Book.ledger c.place.new.self.book))) c.if-not-branch.false (c.in_ok-place.ensures.enters c.requires.first) in
    let placed : IsKept c.args.plan.now (caller_of c.args.plan.now c.args.desk.now.number c.args.desk.now.recipe) [] (desk_of (process_of c.place.new.self.at (g.B.Book.ledger c.place.new.self.book)) (g.R.Registrar.holder c.map.new.self).own c.args.desk.now.ages c.push.new.self.items c.mark.new.marks.items) =
    entered-kept c.args.plan.now (caller_of c.args.plan.now c.args.desk.now.number c.args.desk.now.recipe) c.args.number c.in-Some.file c.base_of-base.result c.elf_of-elf.result.now (plain (Map c.args.desk.now.number c.args.number c.in_ok-file.field-0)) (process_of c.args.desk.now.guest.at (g.B.Book.ledger c.args.desk.now.guest.book)) (g.R.Registrar.holder c.args.registrar.now).own (desk_of (process_of c.place.new.self.at (g.B.Book.ledger c.place.new.self.book)) (g.R.Registrar.holder c.map.new.self).own c.args.desk.now.ages c.push.new.self.items c.mark.new.marks.items)
    (map-quiet c.args.desk.now.number c.args.number c.in_ok-file.field-0) (ap (λ (h : Holder). h.own) c.in_ok-file.ensures.ok) c.requires.bare c.requires.none c.requires.even enters (record { base = c.base_of-base.result; program = c.elf_of-elf.result.now; stands = c.base_of-base.ensures; known = c.elf_of-elf.ensures; top = c.in_ok-place.ensures.top c.if-not-branch.false; stand = c.in_ok-place.ensures.stand c.if-not-branch.false }) in
    λ _. c.in_ok-attach_all.ensures.kept [] placed

pub returns-clause-grows : goal.returns-clause-grows
returns-clause-grows g c =
    grows-behind c.args.desk.now.number (plain (Map c.args.desk.now.number c.args.number c.in_ok-file.field-0)) (g.R.Registrar.holder c.args.registrar.now) (g.R.Registrar.holder c.map.new.self) (g.R.Registrar.holder c.attach_all.new.registrar)
    refl c.in_ok-file.ensures.ok c.attach_all.ensures.grows
