use Rattle.std.proofs.Common.{◌≡◌, drop}
use Rattle.registry.specs.State.{first_due}
use Rattle.registry.proofs.slots.first_due.Given as goal

abbrev pub invariant-loop-i : goal.invariant-loop-i
invariant-loop-i l = first_due l.i (drop l.i l.slots) ≡ first_due 0 l.slots
