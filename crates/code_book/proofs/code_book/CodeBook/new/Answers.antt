use Rattle.std.proofs.Common.{◌≡◌, ◌∙◌, sym, ap, subst, List, [], None, ℕ}
use Rattle.std.specs.Prelude.{Option}
use Rattle.std.specs.Ordering.{nat_cmp}
use Rattle.std.specs.FinMap as fin
use Rattle.block_ledger.specs.Ledger.{Segment}
use Rattle.exit_links.specs.Linked.{Linked, linked}
use Rattle.code_book.specs.Tables.{Held}
use Rattle.code_book.specs.Book.{IsKept, book, ledger}
use Rattle.code_book.proofs.Empty.{nothing, nothing-kept, nothing-ledger}
use Rattle.code_book.proofs.code_book.CodeBook.new.Goals as goal

same : (segments : fin.FinMap nat_cmp Segment) (index : fin.FinMap nat_cmp ℕ) (slots : List (Option Held)) (links : Linked) (lens : fin.FinMap nat_cmp ℕ) →
    segments ≡ fin.empty → (index ≡ fin.empty) × (slots ≡ []) → links ≡ linked 0 fin.empty → lens ≡ fin.empty → book segments index slots links lens 0 None None 0 0 0 0 0 ≡ nothing
same segments index slots links lens s a b c = λ i. book (s i) (a.0 i) (a.1 i) (b i) (c i) 0 None None 0 0 0 0 0

pub invariant_of-result : goal.invariant_of-result
invariant_of-result c = record { kept = subst IsKept (sym (same _ _ _ _ _ c.new-2.ensures (c.new-3.ensures.index, c.new-3.ensures.slots) c.in_ok-links.ensures c.new-4.ensures)) nothing-kept }

pub returns : goal.returns
returns c = ap ledger (same _ _ _ _ _ c.new-2.ensures (c.new-3.ensures.index, c.new-3.ensures.slots) c.in_ok-links.ensures c.new-4.ensures) ∙ nothing-ledger
