use Rattle.std.proofs.Common.{Some, sym, subst}
use Rattle.std.proofs.lemmas.Result.{on_ok_weaker}
use Rattle.guest_proc.specs.Kept.{StopsWell, process_of, scheme_of}
use Rattle.guest_answers.specs.Plan.{caller_of, setting_of}
use Rattle.guest_answers.specs.Desk.{desk_of}
use Rattle.guest_answers.specs.Answer.{RepliesTo}
use Rattle.guest_answers.proofs.Answering.{keeps-all, not-call}
use Rattle.guest_answers.proofs.stops.answer_stop.Goals as goal

pub unreachable-requires : goal.unreachable-requires
unreachable-requires g c = not-call c.args.stop c.in-Ended.end c.in-Ended.is c.requires.call

pub map-requires-clause-asks : goal.map-requires-clause-asks
map-requires-clause-asks g c = subst (λ s. StopsWell (Some s) c.args.desk.now.guest.at.io) c.in-Map.is c.requires.asks

pub unmap-requires-clause-asks : goal.unmap-requires-clause-asks
unmap-requires-clause-asks g c = subst (λ s. StopsWell (Some s) c.args.desk.now.guest.at.io) c.in-Unmap.is c.requires.asks

pub returns-in-Map-clause-replies : goal.returns-in-Map-clause-replies
returns-in-Map-clause-replies g c = on_ok_weaker c.map.result (subst (RepliesTo (setting_of c.args.plan.now) (scheme_of c.args.desk.now.guest.at c.args.desk.now.guest.limits) (caller_of c.args.plan.now c.args.desk.now.number c.args.desk.now.recipe) (desk_of (process_of c.args.desk.now.guest.at (g.B.Book.ledger c.args.desk.now.guest.book)) (g.R.Registrar.holder c.args.registrar.now).own c.args.desk.now.ages c.args.desk.now.files.items c.args.desk.now.marks.items) (desk_of (process_of c.map.new.desk.guest.at (g.B.Book.ledger c.map.new.desk.guest.book)) (g.R.Registrar.holder c.map.new.registrar).own c.map.new.desk.ages c.map.new.desk.files.items c.map.new.desk.marks.items)) (sym c.in-Map.is)) c.map.ensures.answers

pub returns-in-Unmap-clause-replies : goal.returns-in-Unmap-clause-replies
returns-in-Unmap-clause-replies g c = on_ok_weaker c.unmap.result (subst (RepliesTo (setting_of c.args.plan.now) (scheme_of c.args.desk.now.guest.at c.args.desk.now.guest.limits) (caller_of c.args.plan.now c.args.desk.now.number c.args.desk.now.recipe) (desk_of (process_of c.args.desk.now.guest.at (g.B.Book.ledger c.args.desk.now.guest.book)) (g.R.Registrar.holder c.args.registrar.now).own c.args.desk.now.ages c.args.desk.now.files.items c.args.desk.now.marks.items) (desk_of (process_of c.unmap.new.desk.guest.at (g.B.Book.ledger c.unmap.new.desk.guest.book)) (g.R.Registrar.holder c.unmap.new.registrar).own c.unmap.new.desk.ages c.unmap.new.desk.files.items c.unmap.new.desk.marks.items)) (sym c.in-Unmap.is)) c.unmap.ensures.answers

pub returns-in-Replace-clause-replies : goal.returns-in-Replace-clause-replies
returns-in-Replace-clause-replies g c = on_ok_weaker c.replace.result (subst (RepliesTo (setting_of c.args.plan.now) (scheme_of c.args.desk.now.guest.at c.args.desk.now.guest.limits) (caller_of c.args.plan.now c.args.desk.now.number c.args.desk.now.recipe) (desk_of (process_of c.args.desk.now.guest.at (g.B.Book.ledger c.args.desk.now.guest.book)) (g.R.Registrar.holder c.args.registrar.now).own c.args.desk.now.ages c.args.desk.now.files.items c.args.desk.now.marks.items) (desk_of (process_of c.replace.new.desk.guest.at (g.B.Book.ledger c.replace.new.desk.guest.book)) (g.R.Registrar.holder c.replace.new.registrar).own c.replace.new.desk.ages c.replace.new.desk.files.items c.replace.new.desk.marks.items)) (sym c.in-Replace.is)) c.replace.ensures.answers

pub returns-in-Replace-clause-kept : goal.returns-in-Replace-clause-kept
returns-in-Replace-clause-kept g c = on_ok_weaker c.replace.result (λ keeps. keeps-all c.args.plan.now (caller_of c.args.plan.now c.args.desk.now.number c.args.desk.now.recipe) (desk_of (process_of c.args.desk.now.guest.at (g.B.Book.ledger c.args.desk.now.guest.book)) (g.R.Registrar.holder c.args.registrar.now).own c.args.desk.now.ages c.args.desk.now.files.items c.args.desk.now.marks.items) (desk_of (process_of c.replace.new.desk.guest.at (g.B.Book.ledger c.replace.new.desk.guest.book)) (g.R.Registrar.holder c.replace.new.registrar).own c.replace.new.desk.ages c.replace.new.desk.files.items c.replace.new.desk.marks.items) keeps c.requires.kept) c.replace.ensures.kept
