use Rattle.std.proofs.Common.{◌≡◌, ◌++◌, All, take}
use Rattle.unit_set.specs.Slot.{IsSlot}
use Rattle.slot_list.specs.Slots.{segment_slots}
use Rattle.slot_list.proofs.slots.push_segment.Given as goal

abbrev pub invariant-loop-recipe : goal.invariant-loop-recipe
invariant-loop-recipe l = record {
  slots : l.slots.items ≡ l.fn.slots.items ++ segment_slots (take l.recipe-index l.recipes) l.module l.seg;
  spelled : All IsSlot l.slots.items;
}
