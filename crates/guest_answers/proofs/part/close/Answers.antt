use Rattle.std.proofs.Common.{◌∙◌, subst}
use Rattle.std.proofs.lemmas.Result.{on_ok_weaker}
use Rattle.guest_proc.specs.Kept.{process_of}
use Rattle.guest_answers.specs.Plan.{caller_of}
use Rattle.guest_answers.specs.Desk.{IsKept, desk_of}
use Rattle.guest_answers.specs.Room.{PartsAll}
use Rattle.guest_answers.proofs.Rooming.{all-even, keys-attached, keys-once, on_ok_all}
use Rattle.guest_answers.proofs.part.close.Goals as goal

pub part_all-requires-clause-attached : goal.part_all-requires-clause-attached
part_all-requires-clause-attached g c = keys-attached (g.B.Book.ledger c.args.desk.now.guest.book) c.deref.result.now (c.deref.ensures.value ∙ c.in_ok-numbers.ensures.numbers)

pub part_all-requires-clause-once : goal.part_all-requires-clause-once
part_all-requires-clause-once g c = keys-once (g.B.Book.ledger c.args.desk.now.guest.book) c.deref.result.now (c.deref.ensures.value ∙ c.in_ok-numbers.ensures.numbers)

pub returns-clause-parts : goal.returns-clause-parts
returns-clause-parts g c = on_ok_weaker c.part_all.result (λ parts. subst (λ ns. PartsAll (caller_of c.args.plan.now c.args.desk.now.number c.args.desk.now.recipe) ns (desk_of (process_of c.args.desk.now.guest.at (g.B.Book.ledger c.args.desk.now.guest.book)) (g.R.Registrar.holder c.args.registrar.now).own c.args.desk.now.ages c.args.desk.now.files.items c.args.desk.now.marks.items) (desk_of (process_of c.part_all.new.desk.guest.at (g.B.Book.ledger c.part_all.new.desk.guest.book)) (g.R.Registrar.holder c.part_all.new.registrar).own c.part_all.new.desk.ages c.part_all.new.desk.files.items c.part_all.new.desk.marks.items)) (c.deref.ensures.value ∙ c.in_ok-numbers.ensures.numbers) parts) c.part_all.ensures.parts

pub returns-clause-kept : goal.returns-clause-kept
returns-clause-kept g c = on_ok_weaker c.part_all.result (λ kept. subst (λ ns. IsKept c.args.plan.now (caller_of c.args.plan.now c.args.desk.now.number c.args.desk.now.recipe) ns (desk_of (process_of c.part_all.new.desk.guest.at (g.B.Book.ledger c.part_all.new.desk.guest.book)) (g.R.Registrar.holder c.part_all.new.registrar).own c.part_all.new.desk.ages c.part_all.new.desk.files.items c.part_all.new.desk.marks.items)) (c.deref.ensures.value ∙ c.in_ok-numbers.ensures.numbers) kept) c.part_all.ensures.kept

pub returns-clause-even : goal.returns-clause-even
returns-clause-even g c =
    on_ok_weaker c.part_all.result (λ both. all-even (caller_of c.args.plan.now c.args.desk.now.number c.args.desk.now.recipe) c.deref.result.now (desk_of (process_of c.args.desk.now.guest.at (g.B.Book.ledger c.args.desk.now.guest.book)) (g.R.Registrar.holder c.args.registrar.now).own c.args.desk.now.ages c.args.desk.now.files.items c.args.desk.now.marks.items) (desk_of (process_of c.part_all.new.desk.guest.at (g.B.Book.ledger c.part_all.new.desk.guest.book)) (g.R.Registrar.holder c.part_all.new.registrar).own c.part_all.new.desk.ages c.part_all.new.desk.files.items c.part_all.new.desk.marks.items) (c.deref.ensures.value ∙ c.in_ok-numbers.ensures.numbers) both.0 both.1 both.2.even)
    (on_ok_all c.part_all.result _ _ _ c.part_all.ensures.parts c.part_all.ensures.let_go c.part_all.ensures.kept)
