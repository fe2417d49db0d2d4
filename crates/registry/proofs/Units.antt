-- Sets of addresses as rising lists.
use Rattle.std.proofs.Common.{◌≡◌, ℕ, suc, ◌+◌, ◌<◌, ◌≤◌, ◌==◌, ◌||◌, not, Bool, true, false, if◌then◌else◌, List, [], ◌∷◌, length, slice_index, refl, sym, ap, ◌∙◌, subst, arith, nat_lt, eq-eqb, ne_eqb, ltb-true, eqb-true, inl, inr}
use Rattle.std.specs.List.{list_any}
use Rattle.std.proofs.lemmas.Bool.Decides.{nat_tests}
use Rattle.std.proofs.lemmas.Bool.{cases_lt}
use Rattle.fragment.specs.Parts.{Parts}
use Rattle.unit_set.specs.Sets.{has, IsRising, IsUnion}
use Rattle.unit_set.specs.Held.{addresses}
use Rattle.registry.specs.Content.{with_addr, union}

-- one address more is no less, and the same list where it is no more
pub record Grows (old new : List ℕ) : Type 0 where
  pub longer : length old ≤ length new
  pub same : length new ≡ length old → new ≡ old

grows_cons : (b : ℕ) (xs ys : List ℕ) → Grows xs ys → Grows (b ∷ xs) (b ∷ ys)
grows_cons b xs ys g = record { longer = omega (arith, g.longer); same = λ e. ap (λ zs. b ∷ zs) (g.same (omega (arith, e))) }

grows_self : (xs : List ℕ) → Grows xs xs
grows_self xs = record { longer = omega arith; same = λ e. refl }

grows_one : (a : ℕ) (xs : List ℕ) → Grows xs (a ∷ xs)
grows_one a xs = record { longer = omega arith; same = λ e. absurd (omega (arith, e)) }

grows_by : (x y : Bool) (a b : ℕ) (bs : List ℕ) → Grows bs (with_addr a bs) → Grows (b ∷ bs) (if x then a ∷ b ∷ bs else if y then b ∷ bs else b ∷ with_addr a bs)
grows_by true y a b bs g = grows_one a (b ∷ bs)
grows_by false true a b bs g = grows_self (b ∷ bs)
grows_by false false a b bs g = grows_cons b bs (with_addr a bs) g

with_grows : (a : ℕ) (xs : List ℕ) → Grows xs (with_addr a xs)
with_grows a [] = grows_one a []
with_grows a (b ∷ bs) = grows_by (nat_lt a b) (a == b) a b bs (with_grows a bs)

grows_on : (xs ys zs : List ℕ) → Grows xs ys → Grows ys zs → Grows xs zs
grows_on xs ys zs g h = record {
  longer = omega (arith, g.longer, h.longer);
  same = λ e. let second = h.same (omega (arith, e, g.longer, h.longer)) in second ∙ g.same (omega (arith, e, ap length second));
}

pub union_grows : (xs more : List ℕ) → Grows xs (union xs more)
union_grows xs [] = grows_self xs
union_grows xs (a ∷ more) = grows_on xs (with_addr a xs) (union (with_addr a xs) more) (with_grows a xs) (union_grows (with_addr a xs) more)

-- ---- lists that rise, from low on

abbrev Rises : ℕ → List ℕ → Type 0
Rises low [] = Unit {0}
Rises low (a ∷ xs) = (low ≤ a) × Rises (a + 1) xs

rises_from : (low : ℕ) (xs : List ℕ) → IsRising xs → ((i : ℕ) → i < length xs → low ≤ slice_index xs i) → Rises low xs
rises_from low [] rising least = tt
rises_from low (a ∷ xs) rising least = (
  least 0 (omega arith),
  rises_from (a + 1) xs (λ i j lt within. rising (suc i) (suc j) (omega arith) (omega arith))
      (λ i within. let h = rising 0 (suc i) (omega arith) (omega arith) in omega (arith, h)),
)

rises : (xs : List ℕ) → IsRising xs → Rises 0 xs
rises xs rising = rises_from 0 xs rising (λ i within. omega arith)

between : (a b : ℕ) → nat_lt a b ≡ false → (a == b) ≡ false → b + 1 ≤ a
between a b more other = grind (arith, nat_tests)

with_rises_by : (x y : Bool) (a low b : ℕ) (bs : List ℕ) → nat_lt a b ≡ x → (a == b) ≡ y → low ≤ a → Rises low (b ∷ bs)
    → (b + 1 ≤ a → Rises (b + 1) (with_addr a bs)) → Rises low (if x then a ∷ b ∷ bs else if y then b ∷ bs else b ∷ with_addr a bs)
with_rises_by true y a low b bs less same above r later = (above, (omega (arith, ltb-true a b less), r.1))
with_rises_by false true a low b bs more same above r later = r
with_rises_by false false a low b bs more other above r later = (r.0, later (between a b more other))

with_rises : (a low : ℕ) (xs : List ℕ) → low ≤ a → Rises low xs → Rises low (with_addr a xs)
with_rises a low [] above r = (above, tt)
with_rises a low (b ∷ bs) above r = with_rises_by (nat_lt a b) (a == b) a low b bs refl refl above r (λ h. with_rises a (b + 1) bs h r.1)

union_rises : (xs more : List ℕ) → Rises 0 xs → Rises 0 (union xs more)
union_rises xs [] r = r
union_rises xs (a ∷ more) r = union_rises (with_addr a xs) more (with_rises a 0 xs (omega arith) r)

-- ---- what is in them

or_swap : (p q r : Bool) → (p || (q || r)) ≡ (q || (p || r))
or_swap true true r = refl
or_swap true false r = refl
or_swap false true r = refl
or_swap false false r = refl

or_again : (p r : Bool) → (p || r) ≡ (p || (p || r))
or_again true r = refl
or_again false r = refl

has_with_by : (x y : Bool) (z a b : ℕ) (bs : List ℕ) → (a == b) ≡ y → has z (with_addr a bs) ≡ ((a == z) || has z bs)
    → has z (if x then a ∷ b ∷ bs else if y then b ∷ bs else b ∷ with_addr a bs) ≡ ((a == z) || has z (b ∷ bs))
has_with_by true y z a b bs same inner = refl
has_with_by false true z a b bs same inner =
    or_again (b == z) (has z bs) ∙ ap (λ n. (n == z) || has z (b ∷ bs)) (sym (eqb-true a b same))
has_with_by false false z a b bs other inner =
    ap (λ t. (b == z) || t) inner ∙ or_swap (b == z) (a == z) (has z bs)

has_with : (z a : ℕ) (xs : List ℕ) → has z (with_addr a xs) ≡ ((a == z) || has z xs)
has_with z a [] = refl
has_with z a (b ∷ bs) = has_with_by (nat_lt a b) (a == b) z a b bs refl (has_with z a bs)

or_turn : (p q r : Bool) → ((p || q) || r) ≡ (q || (p || r))
or_turn true true r = refl
or_turn true false r = refl
or_turn false true r = refl
or_turn false false r = refl

pub has_union : (z : ℕ) (xs more : List ℕ) → has z (union xs more) ≡ (has z xs || has z more)
has_union z xs [] = or_none (has z xs) where
  or_none : (p : Bool) → p ≡ (p || false)
  or_none true = refl
  or_none false = refl
has_union z xs (a ∷ more) =
    has_union z (with_addr a xs) more ∙ (ap (λ t. t || has z more) (has_with z a xs) ∙ or_turn (a == z) (has z xs) (has z more))

-- ---- lists that rise and have the same are one

none_below : (low z : ℕ) (xs : List ℕ) → Rises low xs → z < low → has z xs ≡ false
none_below low z [] r below = refl
none_below low z (a ∷ xs) r below =
    ap (λ t. t || has z xs) (ne_eqb a z (λ e. absurd (omega (arith, e, r.0)))) ∙ none_below (a + 1) z xs r.1 (omega (arith, r.0))

here : (a : ℕ) (xs : List ℕ) → has a (a ∷ xs) ≡ true
here a xs = ap (λ t. t || has a xs) (eq-eqb a a refl)

-- a is the first of one list, and the other's first is greater
missed : (a b : ℕ) (xs ys : List ℕ) → a < b → Rises (b + 1) ys → has a (a ∷ xs) ≡ has a (b ∷ ys) → ⊥
missed a b xs ys less r same =
    let there = sym (here a xs) ∙ (same ∙ (ap (λ t. t || has a ys) (ne_eqb b a (λ e. absurd (omega (arith, e)))) ∙ none_below (b + 1) a ys r (omega arith))) in
    cc

tail_by : (y : Bool) (a z : ℕ) (xs ys : List ℕ) → (a == z) ≡ y → Rises (a + 1) xs → Rises (a + 1) ys → (y || has z xs) ≡ (y || has z ys) → has z xs ≡ has z ys
tail_by true a z xs ys is r s same =
    let e = eqb-true a z is in
    none_below (a + 1) z xs r (omega (arith, e)) ∙ sym (none_below (a + 1) z ys s (omega (arith, e)))
tail_by false a z xs ys is r s same = same

one_list : (low : ℕ) (xs ys : List ℕ) → Rises low xs → Rises low ys → ((z : ℕ) → has z xs ≡ has z ys) → xs ≡ ys
one_list low [] [] r s same = refl
one_list low [] (b ∷ ys) r s same = absurd (let e = same b ∙ here b ys in cc)
one_list low (a ∷ xs) [] r s same = absurd (let e = sym (same a) ∙ here a xs in cc)
one_list low (a ∷ xs) (b ∷ ys) r s same = elim (cases_lt a b) [
  | inl less ↦ absurd (missed a b xs ys less s.1 (same a))
  | inr more ↦ elim (cases_lt b a) [
    | inl less ↦ absurd (missed b a ys xs less r.1 (sym (same b)))
    | inr no_more ↦
        let e : a ≡ b = omega arith in
        let s' = subst (λ n. Rises (n + 1) ys) (sym e) s.1 in
        let tails = one_list (a + 1) xs ys r.1 s' (λ z. tail_by (a == z) a z xs ys refl r.1 s' (same z ∙ ap (λ n. has z (n ∷ ys)) (sym e))) in
        ap (λ n. n ∷ xs) e ∙ ap (λ zs. b ∷ zs) tails
  ]
]

-- the union, as a relation and as a list
pub joint_is : (a b c : List ℕ) → IsRising a → IsUnion a b c → c ≡ union a b
joint_is a b c rising u = one_list 0 c (union a b) (rises c u.rises) (union_rises a b (rises a rising)) (λ z. u.same z ∙ sym (has_union z a b))

-- nothing of b is new
there_by : (p q : Bool) (a b : List ℕ) (y z : ℕ) → has y a ≡ p → (y == z) ≡ q → (not p || list_any (λ x. not (has x a)) b) ≡ false → (q || has z b) ≡ true
    → (list_any (λ x. not (has x a)) b ≡ false → has z b ≡ true → has z a ≡ true) → has z a ≡ true
there_by true true a b y z in_a is none at later = subst (λ n. has n a ≡ true) (eqb-true y z is) in_a
there_by true false a b y z in_a is none at later = later none at
there_by false q a b y z in_a is none at later = absurd (cc)

all_there : (a b : List ℕ) (z : ℕ) → list_any (λ y. not (has y a)) b ≡ false → has z b ≡ true → has z a ≡ true
all_there a [] z none at = absurd (cc)
all_there a (y ∷ b) z none at = there_by (has y a) (y == z) a b y z refl refl none at (all_there a b z)

pub union_same : (a b : List ℕ) → IsRising a → list_any (λ y. not (has y a)) b ≡ false → union a b ≡ a
union_same a b rising none = one_list 0 (union a b) a (union_rises a b (rises a rising)) (rises a rising)
    (λ z. has_union z a b ∙ within (has z a) (has z b) (all_there a b z none)) where
      within : (p q : Bool) → (q ≡ true → p ≡ true) → (p || q) ≡ p
      within true q h = refl
      within false true h = sym (h refl)
      within false false h = refl

-- something of b is new
record IsNew (a b : List ℕ) : Type 0 where
  address : ℕ
  absent : has address a ≡ false
  there : has address b ≡ true

or_right : (p q : Bool) → q ≡ true → (p || q) ≡ true
or_right true q h = refl
or_right false q h = h

new_by : (p : Bool) (a b : List ℕ) (y : ℕ) → has y a ≡ p → (not p || list_any (λ x. not (has x a)) b) ≡ true → (list_any (λ x. not (has x a)) b ≡ true → IsNew a b) → IsNew a (y ∷ b)
new_by true a b y is some later =
    let n = later some in record { address = n.address; absent = n.absent; there = or_right (y == n.address) (has n.address b) n.there }
new_by false a b y is some later = record { address = y; absent = is; there = here y b }

new_one : (a b : List ℕ) → list_any (λ y. not (has y a)) b ≡ true → IsNew a b
new_one a [] some = absurd (cc)
new_one a (y ∷ b) some = new_by (has y a) a b y refl some (new_one a b)

pub union_more : (a b : List ℕ) → list_any (λ y. not (has y a)) b ≡ true → length a < length (union a b)
union_more a b some = elim (cases_lt (length a) (length (union a b))) [
  | inl less ↦ less
  | inr more ↦
      let g = union_grows a b in
      let same = g.same (omega (arith, g.longer, more)) in
      let n = new_one a b some in
      absurd (let e = sym (or_right (has n.address a) (has n.address b) n.there) ∙ (sym (has_union n.address a b) ∙ (ap (has n.address) same ∙ n.absent)) in cc)
]

-- what a join tests
pub adds_is : (a : List ℕ) (added : List Parts) → list_any (λ f. not (has f.address a)) added ≡ list_any (λ y. not (has y a)) (addresses added)
adds_is a [] = refl
adds_is a (f ∷ added) = ap (λ t. not (has f.address a) || t) (adds_is a added)
