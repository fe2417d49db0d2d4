-- Nothing is live.
use Rattle.std.proofs.Common.{◌≡◌, ℕ, ◌+◌, ◌*◌, ◌/◌, ◌%◌, Bool, true, false, [], get_or, Option, Some, None, refl, sym, ◌∙◌, ap, arith, zero, suc}
use Rattle.std.specs.Prelude.{is_some}
use Rattle.std.specs.Option.{option_map, option_or}
use Rattle.std.specs.FinMap as fin
use Rattle.exit_links.specs.Linked.{linked}
use Rattle.fragment.specs.Parts.{Parts}
use Rattle.block_ledger.specs.Ledger.{is_live, new_ledger}
use Rattle.block_ledger.proofs.Gets.{got-empty, len-none}
use Rattle.code_book.specs.Tables.{Held, and_then, address_at, block_at, if_shared}
use Rattle.code_book.specs.Book.{Book, IsKept, book, tables, ledger, size_of}
use Rattle.code_book.proofs.Ledgers.{got-private, got-shared, got-links, same_blocks}

abbrev pub nothing : Book
nothing = book fin.empty fin.empty [] (linked 0 fin.empty) fin.empty 0 None None 0 0 0 0 0

clash : {A : Type 0} {B : Type 0} (o : Option A) (v : A) → o ≡ None → o ≡ Some v → B
clash o v e f = absurd (let g = sym e ∙ f in cc)

none_at : {X : Type 0} (q : ℕ) → get_or {A = Option X} [] q None ≡ None
none_at zero = refl
none_at (suc q) = refl

no_block : (b : Bool) (a : ℕ) → block_at (tables nothing) b a ≡ None
no_block b a = ap (λ o. and_then (and_then o (tables nothing).held) (if_shared b)) (got-empty a)

empty_shared : (ledger nothing).shared ≡ fin.empty
empty_shared = same_blocks _ _ (λ a. got-shared nothing a ∙ no_block true a ∙ sym (got-empty a))

empty_private : (ledger nothing).private ≡ fin.empty
empty_private = same_blocks _ _ (λ a. got-private nothing a ∙ no_block false a ∙ sym (got-empty a))

empty_links : (ledger nothing).links ≡ fin.empty
empty_links = same_blocks _ _ (λ x. got-links nothing x ∙ ap (λ o. and_then o (λ p. and_then ((tables nothing).next (2 * p + x % 2)) (address_at (tables nothing)))) (got-empty (x / 2)) ∙ sym (got-empty x))

pub nothing-ledger : ledger nothing ≡ new_ledger
nothing-ledger = λ i. record new_ledger { shared = empty_shared i; private = empty_private i; links = empty_links i }

address_none : (p a : ℕ) → address_at (tables nothing) p ≡ Some a → ⊥
address_none zero a e = absurd (cc)
address_none (suc p) a e = absurd (cc)

pub nothing-kept : IsKept nothing
nothing-kept = record {
  tied = record {
    lies = λ a p is. clash (fin.get fin.empty a) p (got-empty a) is;
    placed = λ a p is. absurd (address_none p a is);
    links = λ x q is. clash (fin.get fin.empty x) q (got-empty x) is;
  };
  here = sym (got-empty 0);
  covers = λ a. got-empty a ∙ sym (ap (option_map size_of) ((λ i. option_or (fin.get (empty_shared i) a) (fin.get (empty_private i) a)) ∙ (λ i. option_or (got-empty {X = Parts} a i) (got-empty {X = Parts} a i))));
  short = λ a len is. clash (fin.get fin.empty a) len (got-empty a) is;
  own = sym (ap fin.len empty_private ∙ len-none Parts);
  left = λ e is. absurd (cc);
  room = λ p some. absurd (none_held p some);
  counts = (omega arith, omega arith, omega arith, omega arith);
}
  where
    none_held : (p : ℕ) → is_some (get_or {A = Option Held} [] p None) ≡ true → ⊥
    none_held zero e = absurd (cc)
    none_held (suc p) e = absurd (cc)

pub none-live : (a : ℕ) → is_live new_ledger a ≡ false
none-live a = λ i. is_some (option_or (got-empty {X = Parts} a i) (got-empty {X = Parts} a i))
