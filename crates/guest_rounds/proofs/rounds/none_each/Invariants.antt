use Rattle.std.proofs.Common.{◌≡◌, length}
use Rattle.guest_rounds.proofs.rounds.none_each.Given as goal

abbrev pub invariant-loop : goal.invariant-loop
invariant-loop g l = length l.none.items ≡ l.counter
