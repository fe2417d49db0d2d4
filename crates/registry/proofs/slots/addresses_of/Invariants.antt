use Rattle.std.proofs.Common.{◌≡◌, take}
use Rattle.unit_set.specs.Held.{addresses}
use Rattle.registry.proofs.slots.addresses_of.Given as goal

abbrev pub invariant-loop-f : goal.invariant-loop-f
invariant-loop-f l = l.all.items ≡ addresses (take l.f-index l.added)
