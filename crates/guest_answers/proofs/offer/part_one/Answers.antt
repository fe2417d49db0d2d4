use Rattle.std.proofs.Common.{[], ◌∷◌, refl, subst}
use Rattle.std.proofs.lemmas.Result.{on_ok_weaker}
use Rattle.guest_proc.specs.Kept.{process_of}
use Rattle.guest_answers.specs.Plan.{caller_of}
use Rattle.guest_answers.specs.Desk.{Desk, KeepsBut, desk_of}
use Rattle.guest_answers.proofs.Holding.{keeps-both, still-held}
use Rattle.guest_answers.proofs.Making.{parts-one}
use Rattle.guest_answers.proofs.offer.part_one.Goals as goal

pub let_go-requires-clause-holds : goal.let_go-requires-clause-holds
let_go-requires-clause-holds g c =
    let old : Desk = desk_of (process_of c.args.desk.now.guest.at (g.B.Book.ledger c.args.desk.now.guest.book)) (g.R.Registrar.holder c.args.registrar.now).own c.args.desk.now.ages c.args.desk.now.files.items c.args.desk.now.marks.items in
    let mid : Desk = desk_of (process_of c.offer_one.new.desk.guest.at (g.B.Book.ledger c.offer_one.new.desk.guest.book)) (g.R.Registrar.holder c.offer_one.new.registrar).own c.offer_one.new.desk.ages c.offer_one.new.desk.files.items c.offer_one.new.desk.marks.items in
    still-held c.args.plan.now (caller_of c.args.plan.now c.args.desk.now.number c.args.desk.now.recipe) (caller_of c.args.plan.now c.offer_one.new.desk.number c.offer_one.new.desk.recipe) c.args.number old.process old mid
    c.offer_one.ensures.caller refl c.requires.attached c.in_ok-offer_one.ensures.offers.becomes (c.in_ok-offer_one.ensures.kept.holds c.args.number refl c.requires.holds)

pub returns-clause-parts : goal.returns-clause-parts
returns-clause-parts g c =
    let old : Desk = desk_of (process_of c.args.desk.now.guest.at (g.B.Book.ledger c.args.desk.now.guest.book)) (g.R.Registrar.holder c.args.registrar.now).own c.args.desk.now.ages c.args.desk.now.files.items c.args.desk.now.marks.items in
    let mid : Desk = desk_of (process_of c.offer_one.new.desk.guest.at (g.B.Book.ledger c.offer_one.new.desk.guest.book)) (g.R.Registrar.holder c.offer_one.new.registrar).own c.offer_one.new.desk.ages c.offer_one.new.desk.files.items c.offer_one.new.desk.marks.items in
    let new : Desk = desk_of (process_of c.let_go.new.desk.guest.at (g.B.Book.ledger c.let_go.new.desk.guest.book)) (g.R.Registrar.holder c.let_go.new.registrar).own c.let_go.new.desk.ages c.let_go.new.desk.files.items c.let_go.new.desk.marks.items in
    on_ok_weaker c.let_go.result
    (λ makes. parts-one (caller_of c.args.plan.now c.args.desk.now.number c.args.desk.now.recipe) (caller_of c.args.plan.now c.offer_one.new.desk.number c.offer_one.new.desk.recipe) c.args.number old mid new
    c.offer_one.ensures.caller c.in_ok-offer_one.ensures.offers makes c.let_go.ensures.process)
    c.let_go.ensures.makes

pub returns-clause-kept : goal.returns-clause-kept
returns-clause-kept g c =
    let old : Desk = desk_of (process_of c.args.desk.now.guest.at (g.B.Book.ledger c.args.desk.now.guest.book)) (g.R.Registrar.holder c.args.registrar.now).own c.args.desk.now.ages c.args.desk.now.files.items c.args.desk.now.marks.items in
    let mid : Desk = desk_of (process_of c.offer_one.new.desk.guest.at (g.B.Book.ledger c.offer_one.new.desk.guest.book)) (g.R.Registrar.holder c.offer_one.new.registrar).own c.offer_one.new.desk.ages c.offer_one.new.desk.files.items c.offer_one.new.desk.marks.items in
    let new : Desk = desk_of (process_of c.let_go.new.desk.guest.at (g.B.Book.ledger c.let_go.new.desk.guest.book)) (g.R.Registrar.holder c.let_go.new.registrar).own c.let_go.new.desk.ages c.let_go.new.desk.files.items c.let_go.new.desk.marks.items in
    on_ok_weaker c.let_go.result
    (λ kept. keeps-both c.args.plan.now (caller_of c.args.plan.now c.args.desk.now.number c.args.desk.now.recipe) (c.args.number ∷ []) old mid new c.in_ok-offer_one.ensures.kept
    (subst (λ a. KeepsBut c.args.plan.now a (c.args.number ∷ []) mid new) c.offer_one.ensures.caller kept))
    c.let_go.ensures.kept
