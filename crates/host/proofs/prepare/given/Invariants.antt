use Rattle.std.proofs.Common.{◌≡◌, ◌++◌, drop}
use Rattle.host.specs.Outcome.{given}
use Rattle.host.proofs.prepare.given.Given as goal

abbrev pub invariant-loop-guest : goal.invariant-loop-guest
invariant-loop-guest l = l.inputs.items ++ given (drop l.guest-index l.guests) l.rest.rest.items ≡ given l.guests l.fn.read.items
