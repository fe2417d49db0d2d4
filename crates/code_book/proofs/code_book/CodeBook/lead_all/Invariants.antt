use Rattle.std.proofs.Common.{◌≡◌, ◌≤◌, length}
use Rattle.std.specs.Prelude.{drop}
use Rattle.code_book.specs.Whole.{with_links}
use Rattle.code_book.specs.View.{ledger_of}
use Rattle.code_book.proofs.code_book.CodeBook.lead_all.Given as goal

abbrev pub invariant-loop-left : goal.invariant-loop-left
invariant-loop-left l = record {
  led : ledger_of l.self ≡ with_links l.fn.unit.frags (drop l.left l.fn.unit.frags) (ledger_of l.initial.self);
  left : l.left ≤ length l.fn.unit.frags;
}

abbrev pub decreases-loop-left : goal.decreases-loop-left
decreases-loop-left l = l.left
