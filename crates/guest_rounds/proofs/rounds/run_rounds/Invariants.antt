use Rattle.std.proofs.Common.{◌≡◌}
use Rattle.guest_rounds.specs.Rounds.{HasRun, HaveRun}
use Rattle.guest_rounds.proofs.rounds.run_rounds.Given as goal

abbrev pub invariant-loop-round : goal.invariant-loop-round
invariant-loop-round g l =
    HaveRun (g.G.Guests.tells (g.G.Guests.plan l.fn.guests)) l.rounds (HasRun l.rounds l.round 0) l.fn.registry.opening l.registry l.answers.items × (g.G.Guests.plan l.guests ≡ g.G.Guests.plan l.fn.guests)
