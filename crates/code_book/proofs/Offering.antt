-- Candidates are found one by one.
use Rattle.std.proofs.Common.{◌≡◌, ℕ, zero, suc, ◌+◌, ◌-◌, ◌<◌, ◌≤◌, Bool, true, false, cond, List, [], ◌∷◌, ◌++◌, get_or, Option, Some, None, refl, sym, ◌∙◌, ap, arith, inl, inr}
use Rattle.std.specs.Prelude.{filter, is_some, take}
use Rattle.std.specs.Option.{option_or}
use Rattle.std.specs.FinMap as fin
use Rattle.std.proofs.lemmas.Bool.{cases_Bool}
use Rattle.fragment.specs.Parts.{Parts}
use Rattle.block_ledger.specs.Ledger.{Blocks, view}
use Rattle.code_book.specs.Tables.{Held, address_of, and_then, block_at, if_shared}
use Rattle.code_book.specs.Book.{Book, IsKept, tables, ledger}
use Rattle.code_book.specs.Own.{IsLeast}
use Rattle.code_book.proofs.Going.{some_same}
use Rattle.code_book.proofs.Ledgers.{got-private, got-shared}
use Rattle.code_book.proofs.Walking.{from_on, next-entry, no-entry, push, all_of, from_start}

-- ---- the process's own block at an address

pub own-none : (k : Book) (a : ℕ) → fin.get k.places.place a ≡ None → None ≡ fin.get (ledger k).private a
own-none k a none = sym (got-private k a ∙ ap (λ o. and_then (and_then o (tables k).held) (if_shared false)) none)

pub own-in : (k : Book) (a p : ℕ) (h : Option Held) → fin.get k.places.place a ≡ Some p → get_or k.places.slots p None ≡ h → and_then h (if_shared false) ≡ fin.get (ledger k).private a
own-in k a p h at held = sym (got-private k a ∙ ap (λ o. and_then (and_then o (tables k).held) (if_shared false)) at ∙ ap (λ h. and_then h (if_shared false)) held)

if_own : (h : Held) (b : Bool) (f : Parts) → cond b None (Some h.block) ≡ Some f → f ≡ h.block
if_own h true f e = absurd (cc)
if_own h false f e = some_same f h.block (sym e)

address_by : (k : Book) (kept : IsKept k) (a : ℕ) (f : Parts) (o : Option ℕ) → fin.get k.places.place a ≡ o → (h : Option Held) → and_then o (tables k).held ≡ h → fin.get (ledger k).private a ≡ Some f → f.address ≡ a
address_by k kept a f None at h held e = absurd (let clash : None ≡ Some f = own-none k a at ∙ e in cc)
address_by k kept a f (Some p) at None held e = absurd (let clash : None ≡ Some f = own-in k a p None at held ∙ e in cc)
address_by k kept a f (Some p) at (Some h) held e =
    let same : f ≡ h.block = if_own h h.shared f (own-in k a p (Some h) at held ∙ e) in
    ap (λ (g : Parts). g.address) same ∙ some_same h.block.address a (sym (ap address_of held) ∙ kept.tied.lies a p at)

-- it begins there
pub own-address : (k : Book) → IsKept k → (a : ℕ) (f : Parts) → fin.get (ledger k).private a ≡ Some f → f.address ≡ a
own-address k kept a f e = address_by k kept a f (fin.get k.places.place a) refl (and_then (fin.get k.places.place a) (tables k).held) refl e

-- and it stands ready: no unit has a block there
ready_by : (h : Option Held) (f : Parts) → and_then h (if_shared false) ≡ Some f → option_or (and_then h (if_shared true)) (and_then h (if_shared false)) ≡ Some f
ready_by None f e = absurd (cc)
ready_by (Some h) f e = elim (cases_Bool h.shared) [
  | inl shared ↦ let wrong = rw shared at e in absurd (cc)
  | inr own ↦ (let is : Some h.block ≡ Some f = rw own at e in rw own is)
]

pub own-ready : (k : Book) (a : ℕ) (f : Parts) → fin.get (ledger k).private a ≡ Some f → view (ledger k) a ≡ Some f
own-ready k a f e =
    ap (λ o. option_or o (fin.get (ledger k).private a)) (got-shared k a) ∙ ap (option_or (block_at (tables k) true a)) (got-private k a)
    ∙ ready_by (and_then ((tables k).place a) (tables k).held) f (sym (got-private k a) ∙ e)

pub some-left : (n : ℕ) → (n ≡ 0 → ⊥) → 0 < n
some-left zero none = absurd (none refl)
some-left (suc n) none = omega arith

-- ---- one block more

module _ (test : ℕ × Parts → Bool) where
  abbrev with_rest : List (ℕ × Parts) → ℕ → ℕ × Parts → List (ℕ × Parts) → Bool → List (ℕ × Parts)
  with_rest xs n e es b = xs ++ take n (cond b (e ∷ filter test es) (filter test es))

  pub passed-over : (xs : List (ℕ × Parts)) (n : ℕ) (e : ℕ × Parts) (es : List (ℕ × Parts)) → test e ≡ false → xs ++ take n (filter test es) ≡ xs ++ take n (filter test (e ∷ es))
  passed-over xs n e es out = sym (ap (with_rest xs n e es) out)

  pub no-room : (xs : List (ℕ × Parts)) (n : ℕ) (e : ℕ × Parts) (es : List (ℕ × Parts)) → n ≡ 0 → xs ++ take n (filter test es) ≡ xs ++ take n (filter test (e ∷ es))
  no-room xs n e es none = ap (λ m. xs ++ take m (filter test es)) none ∙ sym (ap (λ m. xs ++ take m (filter test (e ∷ es))) none)

  pub one-more : (xs : List (ℕ × Parts)) (n : ℕ) (e : ℕ × Parts) (es : List (ℕ × Parts)) → 0 < n → test e ≡ true → (xs ++ e ∷ []) ++ take (n - 1) (filter test es) ≡ xs ++ take n (filter test (e ∷ es))
  one-more xs zero e es some is = absurd (omega (arith, some))
  one-more xs (suc m) e es some is =
      let less : suc m - 1 ≡ m = omega arith in
      ap (λ k. (xs ++ e ∷ []) ++ take k (filter test es)) less ∙ push xs e (take m (filter test es)) ∙ sym (ap (with_rest xs (suc m) e es) is)

  -- ---- the loop

  module _ (m : Blocks) where
    abbrev pub rest_of : ℕ → ℕ → List (ℕ × Parts)
    rest_of n low = take n (filter test (from_on low (fin.entries m)))

    pub rest-start : (n : ℕ) → rest_of n 0 ≡ take n (filter test (fin.entries m))
    rest-start n = ap (λ es. take n (filter test es)) (from_start (fin.entries m))

    step_by : (low a : ℕ) (least : IsLeast m low a) (old new all : List (ℕ × Parts)) (left rest : ℕ) (o : Option Parts) → fin.get m a ≡ o → is_some o ≡ true →
        ((f : Parts) (es : List (ℕ × Parts)) → fin.get m a ≡ Some f → new ++ take rest (filter test es) ≡ old ++ take left (filter test ((a, f) ∷ es))) →
        old ++ rest_of left low ≡ all → new ++ rest_of rest (a + 1) ≡ all
    step_by low a least old new all left rest None at some one is = absurd (let clash : false ≡ true = some in cc)
    step_by low a least old new all left rest (Some f) at some one is =
        one f (from_on (a + 1) (fin.entries m)) at
        ∙ sym (ap (λ es. old ++ take left (filter test es))
        (next-entry (fin.entries m) (fin.entries_sorted m) low a f least.from (sym (fin.get-entries m a) ∙ at) (λ b more less. sym (fin.get-entries m b) ∙ least.least b more less)))
        ∙ is

    pub rest-next : (low a : ℕ) (least : IsLeast m low a) (old new all : List (ℕ × Parts)) (left rest : ℕ) →
        ((f : Parts) (es : List (ℕ × Parts)) → fin.get m a ≡ Some f → new ++ take rest (filter test es) ≡ old ++ take left (filter test ((a, f) ∷ es))) →
        old ++ rest_of left low ≡ all → new ++ rest_of rest (a + 1) ≡ all
    rest-next low a least old new all left rest one is = step_by low a least old new all left rest (fin.get m a) refl least.there one is

    take_none : (n : ℕ) → take {A = ℕ × Parts} n [] ≡ []
    take_none zero = refl
    take_none (suc n) = refl

    pub rest-end : (found all : List (ℕ × Parts)) (n low : ℕ) → found ++ rest_of n low ≡ all → ((b : ℕ) → low ≤ b → fin.get m b ≡ None) → found ≡ all
    rest-end found all n low is none =
        sym (ap (λ es. found ++ take n (filter test es)) (no-entry (fin.entries m) low (λ b more. sym (fin.get-entries m b) ∙ none b more)) ∙ ap (λ es. found ++ es) (take_none n) ∙ all_of found) ∙ is
