use Rattle.std.proofs.Common.{refl, ◌∙◌}
use Rattle.guest_proc.specs.Kept.{process_of}
use Rattle.guest_answers.specs.Plan.{caller_of}
use Rattle.guest_answers.specs.Desk.{desk_of}
use Rattle.guest_answers.proofs.Rooming.{keys-attached, no-error, room-is-made}
use Rattle.guest_answers.proofs.room.make_room.Goals as goal

pub offer_all-requires-clause-attached : goal.offer_all-requires-clause-attached
offer_all-requires-clause-attached g c = keys-attached (g.B.Book.ledger c.args.desk.now.guest.book) c.deref.result.now (c.deref.ensures.value ∙ c.in_ok-numbers.ensures.numbers)

pub returns-clause-makes : goal.returns-clause-makes
returns-clause-makes g c = (room-is-made c.args.plan.now (caller_of c.args.plan.now c.args.desk.now.number c.args.desk.now.recipe) c.deref.result.now (desk_of (process_of c.args.desk.now.guest.at (g.B.Book.ledger c.args.desk.now.guest.book)) (g.R.Registrar.holder c.args.registrar.now).own c.args.desk.now.ages c.args.desk.now.files.items c.args.desk.now.marks.items) (desk_of (process_of c.offer_all.new.desk.guest.at (g.B.Book.ledger c.offer_all.new.desk.guest.book)) (g.R.Registrar.holder c.offer_all.new.registrar).own c.offer_all.new.desk.ages c.offer_all.new.desk.files.items c.offer_all.new.desk.marks.items) (desk_of (process_of c.flush.new.self.at (g.B.Book.ledger c.flush.new.self.book)) (g.R.Registrar.holder c.offer_all.new.registrar).own c.offer_all.new.desk.ages c.offer_all.new.desk.files.items c.offer_all.new.desk.marks.items) (c.deref.ensures.value ∙ c.in_ok-numbers.ensures.numbers) c.in_ok-offer_all.ensures.offers c.in_ok-offer_all.ensures.kept refl c.flush.ensures.becomes).makes

pub returns-clause-room : goal.returns-clause-room
returns-clause-room g c = (room-is-made c.args.plan.now (caller_of c.args.plan.now c.args.desk.now.number c.args.desk.now.recipe) c.deref.result.now (desk_of (process_of c.args.desk.now.guest.at (g.B.Book.ledger c.args.desk.now.guest.book)) (g.R.Registrar.holder c.args.registrar.now).own c.args.desk.now.ages c.args.desk.now.files.items c.args.desk.now.marks.items) (desk_of (process_of c.offer_all.new.desk.guest.at (g.B.Book.ledger c.offer_all.new.desk.guest.book)) (g.R.Registrar.holder c.offer_all.new.registrar).own c.offer_all.new.desk.ages c.offer_all.new.desk.files.items c.offer_all.new.desk.marks.items) (desk_of (process_of c.flush.new.self.at (g.B.Book.ledger c.flush.new.self.book)) (g.R.Registrar.holder c.offer_all.new.registrar).own c.offer_all.new.desk.ages c.offer_all.new.desk.files.items c.offer_all.new.desk.marks.items) (c.deref.ensures.value ∙ c.in_ok-numbers.ensures.numbers) c.in_ok-offer_all.ensures.offers c.in_ok-offer_all.ensures.kept refl c.flush.ensures.becomes).becomes

pub returns-clause-kept : goal.returns-clause-kept
returns-clause-kept g c = (room-is-made c.args.plan.now (caller_of c.args.plan.now c.args.desk.now.number c.args.desk.now.recipe) c.deref.result.now (desk_of (process_of c.args.desk.now.guest.at (g.B.Book.ledger c.args.desk.now.guest.book)) (g.R.Registrar.holder c.args.registrar.now).own c.args.desk.now.ages c.args.desk.now.files.items c.args.desk.now.marks.items) (desk_of (process_of c.offer_all.new.desk.guest.at (g.B.Book.ledger c.offer_all.new.desk.guest.book)) (g.R.Registrar.holder c.offer_all.new.registrar).own c.offer_all.new.desk.ages c.offer_all.new.desk.files.items c.offer_all.new.desk.marks.items) (desk_of (process_of c.flush.new.self.at (g.B.Book.ledger c.flush.new.self.book)) (g.R.Registrar.holder c.offer_all.new.registrar).own c.offer_all.new.desk.ages c.offer_all.new.desk.files.items c.offer_all.new.desk.marks.items) (c.deref.ensures.value ∙ c.in_ok-numbers.ensures.numbers) c.in_ok-offer_all.ensures.offers c.in_ok-offer_all.ensures.kept refl c.flush.ensures.becomes).kept

pub returns-clause-after : goal.returns-clause-after
returns-clause-after g c = λ e. absurd (no-error c.segments.result c.in_ok-numbers.numbers c.in_ok-numbers.was (c.segments.ensures.spent e))
