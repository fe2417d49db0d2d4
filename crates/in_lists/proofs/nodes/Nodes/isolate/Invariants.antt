use Rattle.std.proofs.Common.{◌≡◌, ◌<◌, ℕ, length}
use Rattle.in_lists.specs.Nodes.{alone, node_at}
use Rattle.in_lists.proofs.nodes.Nodes.isolate.Given as goal

abbrev pub invariant-loop-index : goal.invariant-loop-index
invariant-loop-index l = record {
  long : length l.self ≡ length l.initial.self;
  done : (k : ℕ) → k < l.index → node_at l.self k ≡ alone k;
}
