use Rattle.std.proofs.Common.{All, take}
use Rattle.unit_set.specs.Slot.{IsSlot}
use Rattle.whole_run.proofs.start.are_apart.Given as goal

abbrev pub invariant-loop-slot : goal.invariant-loop-slot
invariant-loop-slot l = All IsSlot (take l.slot-index l.slots)
