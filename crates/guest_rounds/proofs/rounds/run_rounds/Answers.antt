use Rattle.std.proofs.Common.{arith}
use Rattle.std.proofs.lemmas.Result.{IfOk-weaker}
use Rattle.guest_rounds.specs.Rounds.{HasRun}
use Rattle.guest_rounds.proofs.Lists.{on_ok}
use Rattle.guest_rounds.proofs.Running.{all_there, all_told, free, have_calls}
use Rattle.guest_rounds.proofs.rounds.run_rounds.Goals as goal

pub returns-clause-one_each : goal.returns-clause-one_each
returns-clause-one_each g c =
    IfOk-weaker c.all_of.result _ _ (λ all is. all_there (g.G.Guests.tells (g.G.Guests.plan c.args.guests.now)) c.args.rounds.now c.args.registry.now.opening c.loop-round.round c.loop-round.registry c.loop-round.answers.items
    all.items c.requires.rounds (omega (arith, c.loop-round-test.false)) c.loop-round.invariant.0 is) c.all_of.ensures

pub returns-clause-told : goal.returns-clause-told
returns-clause-told g c =
    IfOk-weaker c.all_of.result _ _ (λ all is. all_told (g.G.Guests.tells (g.G.Guests.plan c.args.guests.now)) c.args.rounds.now c.args.registry.now.opening c.loop-round.round c.loop-round.registry c.loop-round.answers.items
    all.items c.requires.rounds (omega (arith, c.loop-round-test.false)) c.loop-round.invariant.0 is) c.all_of.ensures

pub returns-clause-calls : goal.returns-clause-calls
returns-clause-calls g c =
    have_calls (g.G.Guests.tells (g.G.Guests.plan c.args.guests.now)) c.args.rounds.now c.args.registry.now.opening (HasRun c.args.rounds.now c.loop-round.round 0) c.loop-round.registry c.loop-round.answers.items (λ g p. p.there) c.loop-round.invariant.0

pub returns-clause-free : goal.returns-clause-free
returns-clause-free g c = on_ok c.all_of.result _ (free c.loop-round.registry c.loop-round.invariant.0.let_go c.journal.ensures.counted)
