use Rattle.std.proofs.Common.{◌≡◌, ◌++◌, All, flat_map}
use Rattle.std.specs.List.{range_with_len}
use Rattle.unit_set.specs.Slot.{IsSlot}
use Rattle.slot_list.specs.Slots.{segment_slots}
use Rattle.slot_list.proofs.slots.push_module.Given as goal

abbrev pub invariant-loop-seg : goal.invariant-loop-seg
invariant-loop-seg l = record {
  slots : l.slots.items ≡ l.fn.slots.items ++ flat_map (segment_slots l.layout.recipes l.module) (range_with_len 0 l.seg);
  spelled : All IsSlot l.slots.items;
}
