use Rattle.std.proofs.Common.{true, false, [], refl, ◌∙◌, ap, subst}
use Rattle.plain_machine.specs.Machine.{with_result}
use Rattle.block_ledger.specs.Traced.{codes_of}
use Rattle.registry.specs.declared.entry.Entry.TheVariants.{Map}
use Rattle.registrar.specs.Calls.{Holder, plain}
use Rattle.guest_proc.specs.Kept.{process_of, scheme_of}
use Rattle.guest_proc.specs.Maps.{Places, put_to}
use Rattle.guest_proc.specs.Process.{Process}
use Rattle.guest_answers.specs.Plan.{caller_of}
use Rattle.guest_answers.specs.Desk.{IsKept, desk_of}
use Rattle.guest_answers.specs.Makes.{AttachesAll}
use Rattle.guest_answers.proofs.Growing.{grows-behind}
use Rattle.guest_answers.proofs.Coming.{answer-keeps, apart-now, kept-result, mapped-answers, mapped-now, place-keeps, refused-answers, unknown-answers, unmapped-unheld}
use Rattle.guest_answers.proofs.Evening.{map-quiet}
use Rattle.guest_answers.proofs.come.map.Goals as goal

pub returns-in_default-clause-answers : goal.returns-in_default-clause-answers
returns-in_default-clause-answers g c =
    unknown-answers c.args.plan.now (scheme_of c.args.desk.now.guest.at c.args.desk.now.guest.limits) (caller_of c.args.plan.now c.args.desk.now.number c.args.desk.now.recipe) (g.R.Registrar.holder c.args.registrar.now).opening c.args.number c.minus.result c.in_ok-file.field-0 (process_of c.args.desk.now.guest.at (g.B.Book.ledger c.args.desk.now.guest.book)) (process_of c.answer.new.self.at (g.B.Book.ledger c.answer.new.self.book)) (g.R.Registrar.holder c.args.registrar.now).own (g.R.Registrar.holder c.map.new.self).own c.args.desk.now.ages c.args.desk.now.files.items c.args.desk.now.marks.items c.mark.new.marks.items
    c.requires.fits c.in_ok-file.ensures.mapped c.in_default.is c.minus.ensures (ap (λ (h : Holder). h.own) c.in_ok-file.ensures.ok) c.in_ok-mark.ensures.marked c.answer.ensures.becomes

pub returns-in_default-clause-kept : goal.returns-in_default-clause-kept
returns-in_default-clause-kept g c =
    answer-keeps c.args.plan.now (caller_of c.args.plan.now c.args.desk.now.number c.args.desk.now.recipe) (plain (Map c.args.desk.now.number c.args.number c.in_ok-file.field-0)) c.minus.result (desk_of (process_of c.args.desk.now.guest.at (g.B.Book.ledger c.args.desk.now.guest.book)) (g.R.Registrar.holder c.args.registrar.now).own c.args.desk.now.ages c.args.desk.now.files.items c.args.desk.now.marks.items) (desk_of (process_of c.answer.new.self.at (g.B.Book.ledger c.answer.new.self.book)) (g.R.Registrar.holder c.map.new.self).own c.args.desk.now.ages c.args.desk.now.files.items c.mark.new.marks.items)
    (map-quiet c.args.desk.now.number c.args.number c.in_ok-file.field-0) (ap (λ (h : Holder). h.own) c.in_ok-file.ensures.ok) refl c.answer.ensures.becomes c.requires.kept

pub returns-then-not-branch-clause-answers : goal.returns-then-not-branch-clause-answers
returns-then-not-branch-clause-answers g c =
    let places : Places c.elf_of-elf.result.now c.base_of-base.result c.args.number c.in-Some.file (process_of c.args.desk.now.guest.at (g.B.Book.ledger c.args.desk.now.guest.book)) (process_of c.place.new.self.at (g.B.Book.ledger c.place.new.self.book)) false = subst (Places c.elf_of-elf.result.now c.base_of-base.result c.args.number c.in-Some.file (process_of c.args.desk.now.guest.at (g.B.Book.ledger c.args.desk.now.guest.book)) (process_of c.place.new.self.at (g.B.Book.ledger c.place.new.self.book))) c.if-not-branch.true (c.in_ok-place.ensures.places c.requires.run) in
    refused-answers c.args.plan.now (scheme_of c.args.desk.now.guest.at c.args.desk.now.guest.limits) (caller_of c.args.plan.now c.args.desk.now.number c.args.desk.now.recipe) c.args.number c.in-Some.file c.base_of-base.result c.minus-then-not-branch.result c.elf_of-elf.result.now c.in_ok-file.field-0 (process_of c.args.desk.now.guest.at (g.B.Book.ledger c.args.desk.now.guest.book)) (process_of c.place.new.self.at (g.B.Book.ledger c.place.new.self.book)) (process_of c.answer-then-not-branch.new.self.at (g.B.Book.ledger c.answer-then-not-branch.new.self.book)) (g.R.Registrar.holder c.args.registrar.now).own (g.R.Registrar.holder c.map.new.self).own c.args.desk.now.ages c.args.desk.now.files.items c.push.new.self.items c.args.desk.now.marks.items c.mark.new.marks.items
    c.in-Some.is c.minus-then-not-branch.ensures (ap (λ (h : Holder). h.own) c.in_ok-file.ensures.ok) c.in_ok-push.ensures.items c.in_ok-mark.ensures.marked c.base_of-base.ensures c.elf_of-elf.ensures places c.answer-then-not-branch.ensures.becomes

pub returns-then-not-branch-clause-kept : goal.returns-then-not-branch-clause-kept
returns-then-not-branch-clause-kept g c =
    let places : Places c.elf_of-elf.result.now c.base_of-base.result c.args.number c.in-Some.file (process_of c.args.desk.now.guest.at (g.B.Book.ledger c.args.desk.now.guest.book)) (process_of c.place.new.self.at (g.B.Book.ledger c.place.new.self.book)) false = subst (Places c.elf_of-elf.result.now c.base_of-base.result c.args.number c.in-Some.file (process_of c.args.desk.now.guest.at (g.B.Book.ledger c.args.desk.now.guest.book)) (process_of c.place.new.self.at (g.B.Book.ledger c.place.new.self.book))) c.if-not-branch.true (c.in_ok-place.ensures.places c.requires.run) in
    answer-keeps c.args.plan.now (caller_of c.args.plan.now c.args.desk.now.number c.args.desk.now.recipe) (plain (Map c.args.desk.now.number c.args.number c.in_ok-file.field-0)) c.minus-then-not-branch.result (desk_of (process_of c.args.desk.now.guest.at (g.B.Book.ledger c.args.desk.now.guest.book)) (g.R.Registrar.holder c.args.registrar.now).own c.args.desk.now.ages c.args.desk.now.files.items c.args.desk.now.marks.items) (desk_of (process_of c.answer-then-not-branch.new.self.at (g.B.Book.ledger c.answer-then-not-branch.new.self.book)) (g.R.Registrar.holder c.map.new.self).own c.args.desk.now.ages c.push.new.self.items c.mark.new.marks.items)
    (map-quiet c.args.desk.now.number c.args.number c.in_ok-file.field-0) (ap (λ (h : Holder). h.own) c.in_ok-file.ensures.ok) refl (c.answer-then-not-branch.ensures.becomes ∙ ap (λ (q : Process). put_to q (with_result q.state c.minus-then-not-branch.result) q.ledger) places.2) c.requires.kept

pub attach_all-requires-clause-apart : goal.attach_all-requires-clause-apart
attach_all-requires-clause-apart g c =
    let places : Places c.elf_of-elf.result.now c.base_of-base.result c.args.number c.in-Some.file (process_of c.args.desk.now.guest.at (g.B.Book.ledger c.args.desk.now.guest.book)) (process_of c.place.new.self.at (g.B.Book.ledger c.place.new.self.book)) true = subst (Places c.elf_of-elf.result.now c.base_of-base.result c.args.number c.in-Some.file (process_of c.args.desk.now.guest.at (g.B.Book.ledger c.args.desk.now.guest.book)) (process_of c.place.new.self.at (g.B.Book.ledger c.place.new.self.book))) c.if-not-branch.false (c.in_ok-place.ensures.places c.requires.run) in
    apart-now c.elf_of-elf.result.now c.base_of-base.result c.args.number c.in-Some.file (process_of c.args.desk.now.guest.at (g.B.Book.ledger c.args.desk.now.guest.book)) (process_of c.place.new.self.at (g.B.Book.ledger c.place.new.self.book)) places c.kept.ensures.memory

pub attach_all-requires-clause-unheld : goal.attach_all-requires-clause-unheld
attach_all-requires-clause-unheld g c = unmapped-unheld c.args.plan.now (caller_of c.args.plan.now c.args.desk.now.number c.args.desk.now.recipe) c.args.number (desk_of (process_of c.args.desk.now.guest.at (g.B.Book.ledger c.args.desk.now.guest.book)) (g.R.Registrar.holder c.args.registrar.now).own c.args.desk.now.ages c.args.desk.now.files.items c.args.desk.now.marks.items) c.requires.kept c.requires.asks

pub attach_all-requires-clause-mapped : goal.attach_all-requires-clause-mapped
attach_all-requires-clause-mapped g c =
    let places : Places c.elf_of-elf.result.now c.base_of-base.result c.args.number c.in-Some.file (process_of c.args.desk.now.guest.at (g.B.Book.ledger c.args.desk.now.guest.book)) (process_of c.place.new.self.at (g.B.Book.ledger c.place.new.self.book)) true = subst (Places c.elf_of-elf.result.now c.base_of-base.result c.args.number c.in-Some.file (process_of c.args.desk.now.guest.at (g.B.Book.ledger c.args.desk.now.guest.book)) (process_of c.place.new.self.at (g.B.Book.ledger c.place.new.self.book))) c.if-not-branch.false (c.in_ok-place.ensures.places c.requires.run) in
    mapped-now c.elf_of-elf.result.now c.base_of-base.result c.args.number c.in-Some.file (process_of c.args.desk.now.guest.at (g.B.Book.ledger c.args.desk.now.guest.book)) (process_of c.place.new.self.at (g.B.Book.ledger c.place.new.self.book)) places c.requires.asks

pub returns-clause-answers : goal.returns-clause-answers
returns-clause-answers g c =
    let places : Places c.elf_of-elf.result.now c.base_of-base.result c.args.number c.in-Some.file (process_of c.args.desk.now.guest.at (g.B.Book.ledger c.args.desk.now.guest.book)) (process_of c.place.new.self.at (g.B.Book.ledger c.place.new.self.book)) true = subst (Places c.elf_of-elf.result.now c.base_of-base.result c.args.number c.in-Some.file (process_of c.args.desk.now.guest.at (g.B.Book.ledger c.args.desk.now.guest.book)) (process_of c.place.new.self.at (g.B.Book.ledger c.place.new.self.book))) c.if-not-branch.false (c.in_ok-place.ensures.places c.requires.run) in
    let all : AttachesAll (scheme_of c.args.desk.now.guest.at c.args.desk.now.guest.limits) (caller_of c.args.plan.now c.args.desk.now.number c.args.desk.now.recipe) c.args.number c.in-Some.file (codes_of c.elf_of-elf.result.now c.base_of-base.result) (desk_of (process_of c.place.new.self.at (g.B.Book.ledger c.place.new.self.book)) (g.R.Registrar.holder c.map.new.self).own c.args.desk.now.ages c.push.new.self.items c.mark.new.marks.items) (desk_of (process_of c.attach_all.new.desk.guest.at (g.B.Book.ledger c.attach_all.new.desk.guest.book)) (g.R.Registrar.holder c.attach_all.new.registrar).own c.attach_all.new.desk.ages c.attach_all.new.desk.files.items c.attach_all.new.desk.marks.items) =
    subst (λ s. AttachesAll s (caller_of c.args.plan.now c.args.desk.now.number c.args.desk.now.recipe) c.args.number c.in-Some.file (codes_of c.elf_of-elf.result.now c.base_of-base.result) (desk_of (process_of c.place.new.self.at (g.B.Book.ledger c.place.new.self.book)) (g.R.Registrar.holder c.map.new.self).own c.args.desk.now.ages c.push.new.self.items c.mark.new.marks.items) (desk_of (process_of c.attach_all.new.desk.guest.at (g.B.Book.ledger c.attach_all.new.desk.guest.book)) (g.R.Registrar.holder c.attach_all.new.registrar).own c.attach_all.new.desk.ages c.attach_all.new.desk.files.items c.attach_all.new.desk.marks.items)) c.place.ensures.scheme c.in_ok-attach_all.ensures.attaches in
    mapped-answers c.args.plan.now (scheme_of c.args.desk.now.guest.at c.args.desk.now.guest.limits) (caller_of c.args.plan.now c.args.desk.now.number c.args.desk.now.recipe) c.args.number c.in-Some.file c.base_of-base.result c.elf_of-elf.result.now c.in_ok-file.field-0 (process_of c.args.desk.now.guest.at (g.B.Book.ledger c.args.desk.now.guest.book)) (process_of c.place.new.self.at (g.B.Book.ledger c.place.new.self.book)) (g.R.Registrar.holder c.args.registrar.now).own (g.R.Registrar.holder c.map.new.self).own c.args.desk.now.ages c.args.desk.now.files.items c.push.new.self.items c.args.desk.now.marks.items c.mark.new.marks.items (desk_of (process_of c.attach_all.new.desk.guest.at (g.B.Book.ledger c.attach_all.new.desk.guest.book)) (g.R.Registrar.holder c.attach_all.new.registrar).own c.attach_all.new.desk.ages c.attach_all.new.desk.files.items c.attach_all.new.desk.marks.items) (desk_of (process_of c.answer-2.new.self.at (g.B.Book.ledger c.answer-2.new.self.book)) (g.R.Registrar.holder c.attach_all.new.registrar).own c.attach_all.new.desk.ages c.attach_all.new.desk.files.items c.attach_all.new.desk.marks.items)
    c.in-Some.is (ap (λ (h : Holder). h.own) c.in_ok-file.ensures.ok) c.in_ok-push.ensures.items c.in_ok-mark.ensures.marked c.base_of-base.ensures c.elf_of-elf.ensures places all refl c.answer-2.ensures.becomes

pub returns-clause-kept : goal.returns-clause-kept
returns-clause-kept g c =
    let places : Places c.elf_of-elf.result.now c.base_of-base.result c.args.number c.in-Some.file (process_of c.args.desk.now.guest.at (g.B.Book.ledger c.args.desk.now.guest.book)) (process_of c.place.new.self.at (g.B.Book.ledger c.place.new.self.book)) true = subst (Places c.elf_of-elf.result.now c.base_of-base.result c.args.number c.in-Some.file (process_of c.args.desk.now.guest.at (g.B.Book.ledger c.args.desk.now.guest.book)) (process_of c.place.new.self.at (g.B.Book.ledger c.place.new.self.book))) c.if-not-branch.false (c.in_ok-place.ensures.places c.requires.run) in
    let placed : IsKept c.args.plan.now (caller_of c.args.plan.now c.args.desk.now.number c.args.desk.now.recipe) [] (desk_of (process_of c.place.new.self.at (g.B.Book.ledger c.place.new.self.book)) (g.R.Registrar.holder c.map.new.self).own c.args.desk.now.ages c.push.new.self.items c.mark.new.marks.items) =
    place-keeps c.args.plan.now (caller_of c.args.plan.now c.args.desk.now.number c.args.desk.now.recipe) c.args.number c.in-Some.file c.base_of-base.result c.elf_of-elf.result.now (plain (Map c.args.desk.now.number c.args.number c.in_ok-file.field-0)) (desk_of (process_of c.args.desk.now.guest.at (g.B.Book.ledger c.args.desk.now.guest.book)) (g.R.Registrar.holder c.args.registrar.now).own c.args.desk.now.ages c.args.desk.now.files.items c.args.desk.now.marks.items) (desk_of (process_of c.place.new.self.at (g.B.Book.ledger c.place.new.self.book)) (g.R.Registrar.holder c.map.new.self).own c.args.desk.now.ages c.push.new.self.items c.mark.new.marks.items)
    (map-quiet c.args.desk.now.number c.args.number c.in_ok-file.field-0) (ap (λ (h : Holder). h.own) c.in_ok-file.ensures.ok) refl c.base_of-base.ensures c.elf_of-elf.ensures c.requires.asks places c.kept.ensures.memory
    (record { base = c.base_of-base.result; program = c.elf_of-elf.result.now; stands = c.base_of-base.ensures; known = c.elf_of-elf.ensures; top = c.in_ok-place.ensures.top c.if-not-branch.false; stand = c.in_ok-place.ensures.stand c.if-not-branch.false }) c.requires.kept in
    kept-result c.args.plan.now (caller_of c.args.plan.now c.args.desk.now.number c.args.desk.now.recipe) 0 (desk_of (process_of c.attach_all.new.desk.guest.at (g.B.Book.ledger c.attach_all.new.desk.guest.book)) (g.R.Registrar.holder c.attach_all.new.registrar).own c.attach_all.new.desk.ages c.attach_all.new.desk.files.items c.attach_all.new.desk.marks.items) (desk_of (process_of c.answer-2.new.self.at (g.B.Book.ledger c.answer-2.new.self.book)) (g.R.Registrar.holder c.attach_all.new.registrar).own c.attach_all.new.desk.ages c.attach_all.new.desk.files.items c.attach_all.new.desk.marks.items) refl c.answer-2.ensures.becomes (c.in_ok-attach_all.ensures.kept [] placed)

pub returns-clause-grows : goal.returns-clause-grows
returns-clause-grows g c =
    grows-behind c.args.desk.now.number (plain (Map c.args.desk.now.number c.args.number c.in_ok-file.field-0)) (g.R.Registrar.holder c.args.registrar.now) (g.R.Registrar.holder c.map.new.self) (g.R.Registrar.holder c.attach_all.new.registrar)
    refl c.in_ok-file.ensures.ok c.attach_all.ensures.grows
