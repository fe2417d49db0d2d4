use Rattle.std.proofs.Common.{◌≡◌, ◌+◌, length}
use Rattle.in_lists.specs.Nodes.{AllAlone}
use Rattle.in_lists.proofs.nodes.Nodes.new.Given as goal

abbrev pub invariant-loop-index : goal.invariant-loop-index
invariant-loop-index l = record {
  written : length l.block.nodes ≡ l.index;
  room : length l.block.nodes + l.block.more ≡ l.len;
  start : l.block.start ≡ l.initial.block.start;
  alone : AllAlone l.block.nodes;
}
