use Rattle.std.proofs.Common.{◌≡◌, [], refl, sym, ◌∙◌, ap, subst}
use Rattle.guest_proc.specs.declared.stop.Stop.TheVariants as stop
use Rattle.guest_proc.specs.Kept.{process_of, scheme_of}
use Rattle.guest_proc.specs.Process.{Process, RanOn}
use Rattle.map_laws.specs.Room.{room_made}
use Rattle.guest_answers.specs.Plan.{caller_of}
use Rattle.guest_answers.specs.Desk.{desk_of}
use Rattle.guest_answers.specs.Makes.{MakesQuietly}
use Rattle.guest_answers.proofs.Growing.{grows-none, grows-on}
use Rattle.guest_answers.proofs.Keeping.{run-is-kept}
use Rattle.guest_answers.proofs.Walking.{fits-now}
use Rattle.guest_loop.proofs.Turning.{ahead-room, built-at, full-is, isa-keeps, kept-at, not-spent, ran-far, turns-less}
use Rattle.guest_loop.proofs.turns.run_on.Goals as goal

pub loop-stop-init : goal.loop-stop-init
loop-stop-init g c = record { caller = refl; opening = refl; scheme = refl; entered = refl; grows = grows-none c.args.desk.now.number (g.R.Registrar.holder c.args.registrar.now) (g.R.Registrar.holder c.args.registrar.now) refl; ahead = λ new s far. far; kept = c.requires.kept; built = c.requires.built }

pub returns-then-not-is_full-clause-far : goal.returns-then-not-is_full-clause-far
returns-then-not-is_full-clause-far g c =
    let ran : RanOn (scheme_of c.args.desk.now.guest.at c.args.desk.now.guest.limits) [] (process_of c.loop-stop.desk.guest.at (g.B.Book.ledger c.loop-stop.desk.guest.book)) (process_of c.run.new.self.at (g.B.Book.ledger c.run.new.self.book)) c.in_ok-stop.stop = subst (λ s. RanOn s [] (process_of c.loop-stop.desk.guest.at (g.B.Book.ledger c.loop-stop.desk.guest.book)) (process_of c.run.new.self.at (g.B.Book.ledger c.run.new.self.book)) c.in_ok-stop.stop) c.loop-stop.invariant.scheme c.in_ok-stop.ensures.ran in
    c.loop-stop.invariant.ahead (desk_of (process_of c.run.new.self.at (g.B.Book.ledger c.run.new.self.book)) (g.R.Registrar.holder c.loop-stop.registrar).own c.loop-stop.desk.ages c.loop-stop.desk.files.items c.loop-stop.desk.marks.items) c.in_ok-stop.stop (ran-far (scheme_of c.args.desk.now.guest.at c.args.desk.now.guest.limits) (caller_of c.args.plan.now c.args.desk.now.number c.args.desk.now.recipe) (desk_of (process_of c.loop-stop.desk.guest.at (g.B.Book.ledger c.loop-stop.desk.guest.book)) (g.R.Registrar.holder c.loop-stop.registrar).own c.loop-stop.desk.ages c.loop-stop.desk.files.items c.loop-stop.desk.marks.items) (desk_of (process_of c.run.new.self.at (g.B.Book.ledger c.run.new.self.book)) (g.R.Registrar.holder c.loop-stop.registrar).own c.loop-stop.desk.ages c.loop-stop.desk.files.items c.loop-stop.desk.marks.items) c.in_ok-stop.stop refl ran)

pub returns-then-not-is_full-clause-kept : goal.returns-then-not-is_full-clause-kept
returns-then-not-is_full-clause-kept g c = run-is-kept c.args.plan.now (caller_of c.args.plan.now c.args.desk.now.number c.args.desk.now.recipe) [] (desk_of (process_of c.loop-stop.desk.guest.at (g.B.Book.ledger c.loop-stop.desk.guest.book)) (g.R.Registrar.holder c.loop-stop.registrar).own c.loop-stop.desk.ages c.loop-stop.desk.files.items c.loop-stop.desk.marks.items) (desk_of (process_of c.run.new.self.at (g.B.Book.ledger c.run.new.self.book)) (g.R.Registrar.holder c.loop-stop.registrar).own c.loop-stop.desk.ages c.loop-stop.desk.files.items c.loop-stop.desk.marks.items) c.in_ok-stop.ensures.keeps refl refl c.loop-stop.invariant.kept

pub returns-then-not-is_full-clause-built : goal.returns-then-not-is_full-clause-built
returns-then-not-is_full-clause-built g c = isa-keeps (caller_of c.args.plan.now c.args.desk.now.number c.args.desk.now.recipe) (scheme_of c.args.desk.now.guest.at c.args.desk.now.guest.limits) (process_of c.loop-stop.desk.guest.at (g.B.Book.ledger c.loop-stop.desk.guest.book)) (process_of c.run.new.self.at (g.B.Book.ledger c.run.new.self.book)) c.in_ok-stop.ensures.keeps.isa c.loop-stop.invariant.built

pub make_room-requires : goal.make_room-requires
make_room-requires g c = record {
  fits = fits-now c.args.plan.now (caller_of c.args.plan.now c.args.desk.now.number c.args.desk.now.recipe) (caller_of c.args.plan.now c.loop-stop.desk.number c.loop-stop.desk.recipe) (g.R.Registrar.holder c.args.registrar.now).opening (g.R.Registrar.holder c.loop-stop.registrar).opening c.loop-stop.invariant.caller c.loop-stop.invariant.opening c.requires.fits;
  built = built-at (caller_of c.args.plan.now c.args.desk.now.number c.args.desk.now.recipe) (caller_of c.args.plan.now c.loop-stop.desk.number c.loop-stop.desk.recipe) (scheme_of c.args.desk.now.guest.at c.args.desk.now.guest.limits) (scheme_of c.run.new.self.at c.run.new.self.limits) (process_of c.run.new.self.at (g.B.Book.ledger c.run.new.self.book)) c.loop-stop.invariant.caller (c.run.ensures.scheme ∙ c.loop-stop.invariant.scheme) (isa-keeps (caller_of c.args.plan.now c.args.desk.now.number c.args.desk.now.recipe) (scheme_of c.args.desk.now.guest.at c.args.desk.now.guest.limits) (process_of c.loop-stop.desk.guest.at (g.B.Book.ledger c.loop-stop.desk.guest.book)) (process_of c.run.new.self.at (g.B.Book.ledger c.run.new.self.book)) c.in_ok-stop.ensures.keeps.isa c.loop-stop.invariant.built);
  kept = kept-at c.args.plan.now (caller_of c.args.plan.now c.args.desk.now.number c.args.desk.now.recipe) (caller_of c.args.plan.now c.loop-stop.desk.number c.loop-stop.desk.recipe) [] (desk_of (process_of c.run.new.self.at (g.B.Book.ledger c.run.new.self.book)) (g.R.Registrar.holder c.loop-stop.registrar).own c.loop-stop.desk.ages c.loop-stop.desk.files.items c.loop-stop.desk.marks.items) c.loop-stop.invariant.caller (run-is-kept c.args.plan.now (caller_of c.args.plan.now c.args.desk.now.number c.args.desk.now.recipe) [] (desk_of (process_of c.loop-stop.desk.guest.at (g.B.Book.ledger c.loop-stop.desk.guest.book)) (g.R.Registrar.holder c.loop-stop.registrar).own c.loop-stop.desk.ages c.loop-stop.desk.files.items c.loop-stop.desk.marks.items) (desk_of (process_of c.run.new.self.at (g.B.Book.ledger c.run.new.self.book)) (g.R.Registrar.holder c.loop-stop.registrar).own c.loop-stop.desk.ages c.loop-stop.desk.files.items c.loop-stop.desk.marks.items) c.in_ok-stop.ensures.keeps refl refl c.loop-stop.invariant.kept);
}

pub returns-in_err-make_room-clause-grows : goal.returns-in_err-make_room-clause-grows
returns-in_err-make_room-clause-grows g c = grows-on (caller_of c.args.plan.now c.args.desk.now.number c.args.desk.now.recipe) (caller_of c.args.plan.now c.loop-stop.desk.number c.loop-stop.desk.recipe) (g.R.Registrar.holder c.args.registrar.now) (g.R.Registrar.holder c.loop-stop.registrar) (g.R.Registrar.holder c.make_room.new.registrar) c.loop-stop.invariant.caller c.loop-stop.invariant.grows c.make_room.ensures.grows

pub loop-stop-smaller : goal.loop-stop-smaller
loop-stop-smaller g c =
    let ran : RanOn (scheme_of c.args.desk.now.guest.at c.args.desk.now.guest.limits) [] (process_of c.loop-stop.desk.guest.at (g.B.Book.ledger c.loop-stop.desk.guest.book)) (process_of c.run.new.self.at (g.B.Book.ledger c.run.new.self.book)) c.in_ok-stop.stop = subst (λ s. RanOn s [] (process_of c.loop-stop.desk.guest.at (g.B.Book.ledger c.loop-stop.desk.guest.book)) (process_of c.run.new.self.at (g.B.Book.ledger c.run.new.self.book)) c.in_ok-stop.stop) c.loop-stop.invariant.scheme c.in_ok-stop.ensures.ran in
    let full : c.in_ok-stop.stop ≡ stop.PoolFull = full-is c.in_ok-stop.stop (sym c.is_full.ensures ∙ c.if-not-is_full.false) in
    turns-less (scheme_of c.args.desk.now.guest.at c.args.desk.now.guest.limits) (process_of c.loop-stop.desk.guest.at (g.B.Book.ledger c.loop-stop.desk.guest.book)) (process_of c.run.new.self.at (g.B.Book.ledger c.run.new.self.book)) (process_of c.make_room.new.desk.guest.at (g.B.Book.ledger c.make_room.new.desk.guest.book)) c.args.desk.now.guest.limits.room (subst (RanOn (scheme_of c.args.desk.now.guest.at c.args.desk.now.guest.limits) [] (process_of c.loop-stop.desk.guest.at (g.B.Book.ledger c.loop-stop.desk.guest.book)) (process_of c.run.new.self.at (g.B.Book.ledger c.run.new.self.book))) full ran) c.in_ok-make_room.ensures.room

pub loop-stop-preserved : goal.loop-stop-preserved
loop-stop-preserved g c =
    let ran : RanOn (scheme_of c.args.desk.now.guest.at c.args.desk.now.guest.limits) [] (process_of c.loop-stop.desk.guest.at (g.B.Book.ledger c.loop-stop.desk.guest.book)) (process_of c.run.new.self.at (g.B.Book.ledger c.run.new.self.book)) c.in_ok-stop.stop = subst (λ s. RanOn s [] (process_of c.loop-stop.desk.guest.at (g.B.Book.ledger c.loop-stop.desk.guest.book)) (process_of c.run.new.self.at (g.B.Book.ledger c.run.new.self.book)) c.in_ok-stop.stop) c.loop-stop.invariant.scheme c.in_ok-stop.ensures.ran in
    let full : c.in_ok-stop.stop ≡ stop.PoolFull = full-is c.in_ok-stop.stop (sym c.is_full.ensures ∙ c.if-not-is_full.false) in
    let makes : MakesQuietly (caller_of c.args.plan.now c.args.desk.now.number c.args.desk.now.recipe) (room_made (process_of c.run.new.self.at (g.B.Book.ledger c.run.new.self.book))) (desk_of (process_of c.run.new.self.at (g.B.Book.ledger c.run.new.self.book)) (g.R.Registrar.holder c.loop-stop.registrar).own c.loop-stop.desk.ages c.loop-stop.desk.files.items c.loop-stop.desk.marks.items) (desk_of (process_of c.make_room.new.desk.guest.at (g.B.Book.ledger c.make_room.new.desk.guest.book)) (g.R.Registrar.holder c.make_room.new.registrar).own c.make_room.new.desk.ages c.make_room.new.desk.files.items c.make_room.new.desk.marks.items) = subst (λ x. MakesQuietly x (room_made (process_of c.run.new.self.at (g.B.Book.ledger c.run.new.self.book))) (desk_of (process_of c.run.new.self.at (g.B.Book.ledger c.run.new.self.book)) (g.R.Registrar.holder c.loop-stop.registrar).own c.loop-stop.desk.ages c.loop-stop.desk.files.items c.loop-stop.desk.marks.items) (desk_of (process_of c.make_room.new.desk.guest.at (g.B.Book.ledger c.make_room.new.desk.guest.book)) (g.R.Registrar.holder c.make_room.new.registrar).own c.make_room.new.desk.ages c.make_room.new.desk.files.items c.make_room.new.desk.marks.items)) c.loop-stop.invariant.caller c.in_ok-make_room.ensures.makes in
    record {
      caller = c.make_room.ensures.caller ∙ c.loop-stop.invariant.caller;
      opening = c.make_room.ensures.opening ∙ c.loop-stop.invariant.opening;
      scheme = c.make_room.ensures.scheme ∙ c.run.ensures.scheme ∙ c.loop-stop.invariant.scheme;
      grows = grows-on (caller_of c.args.plan.now c.args.desk.now.number c.args.desk.now.recipe) (caller_of c.args.plan.now c.loop-stop.desk.number c.loop-stop.desk.recipe) (g.R.Registrar.holder c.args.registrar.now) (g.R.Registrar.holder c.loop-stop.registrar) (g.R.Registrar.holder c.make_room.new.registrar) c.loop-stop.invariant.caller c.loop-stop.invariant.grows c.make_room.ensures.grows;
      entered = c.make_room.ensures.entered ∙ c.run.ensures.entered ∙ c.loop-stop.invariant.entered;
      ahead = ahead-room (scheme_of c.args.desk.now.guest.at c.args.desk.now.guest.limits) (caller_of c.args.plan.now c.args.desk.now.number c.args.desk.now.recipe) (desk_of (process_of c.args.desk.now.guest.at (g.B.Book.ledger c.args.desk.now.guest.book)) (g.R.Registrar.holder c.args.registrar.now).own c.args.desk.now.ages c.args.desk.now.files.items c.args.desk.now.marks.items) (desk_of (process_of c.loop-stop.desk.guest.at (g.B.Book.ledger c.loop-stop.desk.guest.book)) (g.R.Registrar.holder c.loop-stop.registrar).own c.loop-stop.desk.ages c.loop-stop.desk.files.items c.loop-stop.desk.marks.items) (desk_of (process_of c.run.new.self.at (g.B.Book.ledger c.run.new.self.book)) (g.R.Registrar.holder c.loop-stop.registrar).own c.loop-stop.desk.ages c.loop-stop.desk.files.items c.loop-stop.desk.marks.items) (desk_of (process_of c.make_room.new.desk.guest.at (g.B.Book.ledger c.make_room.new.desk.guest.book)) (g.R.Registrar.holder c.make_room.new.registrar).own c.make_room.new.desk.ages c.make_room.new.desk.files.items c.make_room.new.desk.marks.items) c.args.desk.now.guest.limits.room c.kept.ensures.memory (c.kept.ensures.aligned (not-spent c.run.new.self.spent c.make_room.result c.in_ok-make_room.field-0 c.in_ok-make_room.was c.make_room.ensures.after)) refl
          c.loop-stop.invariant.ahead (subst (RanOn (scheme_of c.args.desk.now.guest.at c.args.desk.now.guest.limits) [] (process_of c.loop-stop.desk.guest.at (g.B.Book.ledger c.loop-stop.desk.guest.book)) (process_of c.run.new.self.at (g.B.Book.ledger c.run.new.self.book))) full ran) makes c.in_ok-make_room.ensures.room;
      kept = kept-at c.args.plan.now (caller_of c.args.plan.now c.loop-stop.desk.number c.loop-stop.desk.recipe) (caller_of c.args.plan.now c.args.desk.now.number c.args.desk.now.recipe) [] (desk_of (process_of c.make_room.new.desk.guest.at (g.B.Book.ledger c.make_room.new.desk.guest.book)) (g.R.Registrar.holder c.make_room.new.registrar).own c.make_room.new.desk.ages c.make_room.new.desk.files.items c.make_room.new.desk.marks.items) (sym c.loop-stop.invariant.caller) c.in_ok-make_room.ensures.kept;
      built = isa-keeps (caller_of c.args.plan.now c.args.desk.now.number c.args.desk.now.recipe) (scheme_of c.args.desk.now.guest.at c.args.desk.now.guest.limits) (process_of c.run.new.self.at (g.B.Book.ledger c.run.new.self.book)) (process_of c.make_room.new.desk.guest.at (g.B.Book.ledger c.make_room.new.desk.guest.book)) (ap (λ (p : Process). p.state.cpu.isa) c.in_ok-make_room.ensures.room) (isa-keeps (caller_of c.args.plan.now c.args.desk.now.number c.args.desk.now.recipe) (scheme_of c.args.desk.now.guest.at c.args.desk.now.guest.limits) (process_of c.loop-stop.desk.guest.at (g.B.Book.ledger c.loop-stop.desk.guest.book)) (process_of c.run.new.self.at (g.B.Book.ledger c.run.new.self.book)) c.in_ok-stop.ensures.keeps.isa c.loop-stop.invariant.built);
    }
