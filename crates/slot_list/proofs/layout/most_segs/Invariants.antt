use Rattle.std.proofs.Common.{◌≡◌, ◌≤◌, max, drop}
use Rattle.slot_list.specs.Slots.{most_segs}
use Rattle.slot_list.proofs.layout.most_segs.Given as goal

abbrev pub invariant-loop-elf : goal.invariant-loop-elf
invariant-loop-elf l = record {
  most : max (most_segs (drop l.elf-index l.elfs)) l.most ≡ most_segs l.elfs;
  few : l.most ≤ 4;
}
