use Rattle.std.proofs.Common.{◌≡◌, ◌≤◌, All, map, take}
use Rattle.whole_run.proofs.run.rounds_of.Given as goal

abbrev pub invariant-loop-guest : goal.invariant-loop-guest
invariant-loop-guest l = record {
  rounds : l.rounds.items ≡ map (λ g. g.round) (take l.guest-index l.guests);
  few : All (λ round. round ≤ 15) l.rounds.items;
}
