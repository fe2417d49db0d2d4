use Rattle.std.proofs.Common.{◌≡◌}
use Rattle.guest_rounds.specs.Rounds.{HasRun, HaveRun}
use Rattle.guest_rounds.proofs.rounds.run_round.Given as goal

abbrev pub invariant-loop-guest : goal.invariant-loop-guest
invariant-loop-guest g l =
    HaveRun (g.G.Guests.tells (g.G.Guests.plan l.fn.guests)) l.rounds (HasRun l.rounds l.round l.guest) l.fn.registry.opening l.registry l.answers.items × (g.G.Guests.plan l.guests ≡ g.G.Guests.plan l.fn.guests)
