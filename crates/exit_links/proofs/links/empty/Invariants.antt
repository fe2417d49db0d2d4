use Rattle.std.proofs.Common.{◌≡◌, ◌+◌, length}
use Rattle.std.specs.FinMap.{len}
use Rattle.exit_links.specs.Leads.{pairs_of}
use Rattle.exit_links.proofs.Pairs.{IsEmptied}
use Rattle.exit_links.proofs.links.empty.Given as goal

abbrev pub invariant-loop-exit : goal.invariant-loop-exit
invariant-loop-exit g l = record {
  emptied : IsEmptied l.initial.lists l.lists l.to;
  exits : l.lists.exits ≡ l.initial.lists.exits;
  heads : length l.lists.lists ≡ length l.initial.lists.lists;
  steps : l.steps + len (pairs_of l.lists) ≡ l.initial.steps + len (pairs_of l.initial.lists);
}

abbrev pub decreases-loop-exit : goal.decreases-loop-exit
decreases-loop-exit g l = len (pairs_of l.lists)
