use Rattle.std.proofs.Common.{◌/◌, ◌%◌, [], ◌∙◌, ap}
use Rattle.std.proofs.lemmas.Result.{on_ok_weaker}
use Rattle.block_ledger.specs.Ledger.{segment_of, offered}
use Rattle.guest_proc.specs.Kept.{process_of, scheme_of}
use Rattle.guest_proc.specs.Maps.{put_to}
use Rattle.guest_answers.specs.Plan.{caller_of}
use Rattle.guest_answers.specs.Desk.{Desk, desk_of}
use Rattle.guest_answers.proofs.Holding.{keeps-both, may-hand-in, offer-keeps, whole-number}
use Rattle.guest_answers.proofs.Making.{offers-one}
use Rattle.guest_answers.proofs.offer.offer_one.Goals as goal

pub hand_in-requires-clause-may : goal.hand_in-requires-clause-may
hand_in-requires-clause-may g c =
    may-hand-in c.args.plan.now (caller_of c.args.plan.now c.args.desk.now.number c.args.desk.now.recipe) (scheme_of c.args.desk.now.guest.at c.args.desk.now.guest.limits) c.args.number (segment_of (c.args.number / 4) (c.args.number % 4))
    (process_of c.args.desk.now.guest.at (g.B.Book.ledger c.args.desk.now.guest.book)) (process_of c.offer.new.self.at (g.B.Book.ledger c.offer.new.self.book)) (g.R.Registrar.holder c.args.registrar.now).own c.args.desk.now.ages c.args.desk.now.files.items c.args.desk.now.marks.items
    c.deref.result.now c.in_ok-blocks.blocks.items (whole-number c.args.number) c.deref.ensures.value c.requires.built c.requires.attached c.in_ok-blocks.ensures.fresh c.requires.holds

pub returns-clause-offers : goal.returns-clause-offers
returns-clause-offers g c =
    on_ok_weaker c.hand_in.result
    (λ makes. offers-one (caller_of c.args.plan.now c.args.desk.now.number c.args.desk.now.recipe) c.args.number (segment_of (c.args.number / 4) (c.args.number % 4)) c.deref.result.now c.in_ok-blocks.blocks.items
    (process_of c.args.desk.now.guest.at (g.B.Book.ledger c.args.desk.now.guest.book)) (process_of c.offer.new.self.at (g.B.Book.ledger c.offer.new.self.book)) (g.R.Registrar.holder c.args.registrar.now).own c.args.desk.now.ages c.args.desk.now.files.items c.args.desk.now.marks.items
    (desk_of (process_of c.hand_in.new.desk.guest.at (g.B.Book.ledger c.hand_in.new.desk.guest.book)) (g.R.Registrar.holder c.hand_in.new.registrar).own c.hand_in.new.desk.ages c.hand_in.new.desk.files.items c.hand_in.new.desk.marks.items)
    (whole-number c.args.number) c.deref.ensures.value c.requires.attached c.in_ok-blocks.ensures.addresses c.in_ok-blocks.ensures.offered makes c.hand_in.ensures.process)
    c.hand_in.ensures.makes

pub returns-clause-kept : goal.returns-clause-kept
returns-clause-kept g c =
    let old : Desk = desk_of (process_of c.args.desk.now.guest.at (g.B.Book.ledger c.args.desk.now.guest.book)) (g.R.Registrar.holder c.args.registrar.now).own c.args.desk.now.ages c.args.desk.now.files.items c.args.desk.now.marks.items in
    let mid : Desk = desk_of (process_of c.offer.new.self.at (g.B.Book.ledger c.offer.new.self.book)) (g.R.Registrar.holder c.args.registrar.now).own c.args.desk.now.ages c.args.desk.now.files.items c.args.desk.now.marks.items in
    let new : Desk = desk_of (process_of c.hand_in.new.desk.guest.at (g.B.Book.ledger c.hand_in.new.desk.guest.book)) (g.R.Registrar.holder c.hand_in.new.registrar).own c.hand_in.new.desk.ages c.hand_in.new.desk.files.items c.hand_in.new.desk.marks.items in
    let caller = caller_of c.args.plan.now c.args.desk.now.number c.args.desk.now.recipe in
    on_ok_weaker c.hand_in.result
    (λ kept. keeps-both c.args.plan.now caller [] old mid new
    (offer-keeps c.args.plan.now caller c.args.number old mid
    (ap (λ p. desk_of p (g.R.Registrar.holder c.args.registrar.now).own c.args.desk.now.ages c.args.desk.now.files.items c.args.desk.now.marks.items)
    (c.in_ok-blocks.ensures.offered ∙ ap (λ i. put_to old.process old.process.state (offered i old.process.ledger)) (whole-number c.args.number))))
    kept)
    c.hand_in.ensures.kept
