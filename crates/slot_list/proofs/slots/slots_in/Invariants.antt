use Rattle.std.proofs.Common.{◌≡◌, All, take}
use Rattle.unit_set.specs.Slot.{IsSlot}
use Rattle.slot_list.specs.Slots.{slots_in}
use Rattle.slot_list.proofs.slots.slots_in.Given as goal

abbrev pub invariant-loop-module : goal.invariant-loop-module
invariant-loop-module l = record {
  slots : l.slots.items ≡ slots_in (take l.module-index l.modules) l.layout;
  spelled : All IsSlot l.slots.items;
}
