use Rattle.std.proofs.Common.{refl, ◌∙◌}
use Rattle.std.proofs.lemmas.Option.{unwrap_or-slice_get}
use Rattle.guest_rounds.specs.Rounds.{HasRun}
use Rattle.guest_rounds.proofs.Lists.{on_err}
use Rattle.guest_rounds.proofs.Running.{unfinished, have_here, have_some}
use Rattle.guest_rounds.proofs.rounds.run_at.Goals as goal

pub run-requires-clause-unfinished : goal.run-requires-clause-unfinished
run-requires-clause-unfinished g c =
    unfinished (g.G.Guests.tells (g.G.Guests.plan c.args.guests.now)) c.args.rounds.now c.args.registry.now.opening (HasRun c.args.rounds.now c.args.round c.args.guest) c.args.registry.now c.args.answers.now.items c.requires.ran

pub returns-in_err-ran-clause-err : goal.returns-in_err-ran-clause-err
returns-in_err-ran-clause-err g c = on_err c.from_residual.result _
    (have_some (g.G.Guests.tells (g.G.Guests.plan c.args.guests.now)) c.args.rounds.now c.args.registry.now.opening c.args.round c.args.guest c.args.registry.now c.run.new.registry c.args.answers.now.items
    c.requires.there (unwrap_or-slice_get c.args.rounds.now c.args.guest 0 ∙ c.if-rounds-guest.false) c.requires.ran c.in_err-ran.ensures.err)

pub returns-clause-ok : goal.returns-clause-ok
returns-clause-ok g c =
    have_here (g.G.Guests.tells (g.G.Guests.plan c.args.guests.now)) c.args.rounds.now c.args.registry.now.opening c.args.round c.args.guest c.args.registry.now c.run.new.registry c.args.answers.now.items _ c.in_ok-ran.ran
    c.requires.there (unwrap_or-slice_get c.args.rounds.now c.args.guest 0 ∙ c.if-rounds-guest.false) c.requires.ran c.in_ok-ran.ensures.ok refl
