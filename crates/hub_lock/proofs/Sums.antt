-- Sums over lists, and counts that are 0 or 1.
use Rattle.std.proofs.Common.{◌≡◌, ℕ, zero, suc, ◌+◌, ◌<◌, ◌≤◌, ◌≢◌, List, [], ◌∷◌, ◌++◌, set, sym, refl, ap, ◌∙◌, arith, cond, nat_lt, eq-eqb, ne_eqb, lt-ltb, le-ltb, le_refl}
use mathlib.Core.Logic.{dite}
use native.Mathlib.Decide.{ℕ_discrete, dec_le}
use mathlib.Core.Option.{some, some-injective, some-ne-none}
use lib.ListN.{get_elem?}
use Rattle.hub_lock.specs.Places.{total, only, between}

module _ {A : Type 0} where
  module _ (g : A → ℕ) where
    pub total-append : (l m : List A) → total g (l ++ m) ≡ total g l + total g m
    total-append [] m = omega arith
    total-append (x ∷ xs) m = omega (arith, total-append xs m)

    -- a list without its item v at the place j: the sums differ by that item, also where another stands there, and every other item is still in it
    record IsWithout (l : List A) (j : ℕ) (v : A) (rest : List A) : Type 0 where
      sum : total g l ≡ g v + total g rest
      other : (w : A) → total g (set l j w) ≡ g w + total g rest
      found : (k : ℕ) (u : A) → k ≢ j → get_elem? l k ≡ some u → (i : ℕ) × (get_elem? rest i ≡ some u)

    found_later : (x : A) (xs rest : List A) (j k : ℕ) (v u : A) → IsWithout xs j v rest → k ≢ suc j → get_elem? (x ∷ xs) k ≡ some u
        → (i : ℕ) × (get_elem? (x ∷ rest) i ≡ some u)
    found_later x xs rest j zero v u without apart at = (0, at)
    found_later x xs rest j (suc k) v u without apart at = let i = without.found k u (λ same. apart (ap suc same)) at in (suc i.0, i.1)

    found_behind : (x : A) (xs : List A) (k : ℕ) (u : A) → k ≢ 0 → get_elem? (x ∷ xs) k ≡ some u → (i : ℕ) × (get_elem? xs i ≡ some u)
    found_behind x xs zero u apart at = absurd (apart refl)
    found_behind x xs (suc k) u apart at = (k, at)

    without : (l : List A) (j : ℕ) (v : A) → get_elem? l j ≡ some v → (rest : List A) × IsWithout l j v rest
    without [] j v at = absurd (some-ne-none v (sym at))
    without (x ∷ xs) zero v at = (
      xs,
      record {
        sum = ap (λ y. g y + total g xs) (some-injective x v at);
        other = λ w. refl;
        found = found_behind x xs;
      },
    )
    without (x ∷ xs) (suc j) v at = let inner = without xs j v at in (
      x ∷ inner.0,
      record {
        sum = omega (arith, inner.1.sum);
        other = λ w. omega (arith, inner.1.other w);
        found = λ k u. found_later x xs inner.0 j k v u inner.1;
      },
    )

    -- v becomes w
    pub total-set : (l : List A) (j : ℕ) (v w : A) → get_elem? l j ≡ some v → total g (set l j w) + g v ≡ total g l + g w
    total-set l j v w at = let rest = (without l j v at).1 in omega (arith, rest.sum, rest.other w)

    -- one term, and two at different places, are at most the sum
    pub term_le : (l : List A) (j : ℕ) (v : A) → get_elem? l j ≡ some v → g v ≤ total g l
    term_le l j v at = omega (arith, (without l j v at).1.sum)

    pub terms_le : (l : List A) (j k : ℕ) (v u : A) → k ≢ j → get_elem? l j ≡ some v → get_elem? l k ≡ some u → g v + g u ≤ total g l
    terms_le l j k v u apart at there =
        let rest = without l j v at in
        let u_at = rest.1.found k u apart there in
        omega (arith, rest.1.sum, term_le rest.0 u_at.0 u u_at.1)

    pub total_zero : (l : List A) → ((j : ℕ) (v : A) → get_elem? l j ≡ some v → g v ≡ 0) → total g l ≡ 0
    total_zero [] h = refl
    total_zero (x ∷ xs) h = omega (arith, h 0 x refl, total_zero xs (λ j v e. h (suc j) v e))

    -- a sum over 0 has a term over 0
    pub some_term : (l : List A) → 0 < total g l → (j : ℕ) × (v : A) × (get_elem? l j ≡ some v) × (0 < g v)
    some_term [] h = absurd (omega arith)
    some_term (x ∷ xs) h = dite (ℕ_discrete (g x) 0)
        (λ z. let t = some_term xs (omega arith) in (suc t.0, t.1, t.2, t.3))
        (λ n. (0, x, refl, omega arith))

  pub total_le : (f g : A → ℕ) (l : List A) → ((j : ℕ) (v : A) → get_elem? l j ≡ some v → f v ≤ g v) → total f l ≤ total g l
  total_le f g [] h = le_refl 0
  total_le f g (x ∷ xs) h = omega (arith, h 0 x refl, total_le f g xs (λ j v e. h (suc j) v e))

pub only-same : (k x : ℕ) → x ≡ k → only k x ≡ 1
only-same k x e = ap (λ b. cond b 1 0) (eq-eqb x k e)

pub only-other : (k x : ℕ) → x ≢ k → only k x ≡ 0
only-other k x n = ap (λ b. cond b 1 0) (ne_eqb x k n)

pub between-in : (x a b : ℕ) → a ≤ x → x < b → between x a b ≡ 1
between-in x a b h l = ap (λ c. cond c (cond (nat_lt x a) 0 1) 0) (lt-ltb x b l) ∙ ap (λ c. cond c 0 1) (le-ltb x a h)

pub between-low : (x a b : ℕ) → x < a → between x a b ≡ 0
between-low x a b l = dite (dec_le b x)
    (λ y. ap (λ c. cond c (cond (nat_lt x a) 0 1) 0) (le-ltb x b y))
    (λ y. ap (λ c. cond c (cond (nat_lt x a) 0 1) 0) (lt-ltb x b (omega arith)) ∙ ap (λ c. cond c 0 1) (lt-ltb x a l))

pub between-high : (x a b : ℕ) → b ≤ x → between x a b ≡ 0
between-high x a b h = ap (λ c. cond c (cond (nat_lt x a) 0 1) 0) (le-ltb x b h)

pub between_le : (x a b : ℕ) → between x a b ≤ 1
between_le x a b = dite (dec_le a x)
    (λ y. dite (dec_le b x) (λ z. omega (arith, between-high x a b z)) (λ z. omega (arith, between-in x a b y (omega arith))))
    (λ y. omega (arith, between-low x a b (omega arith)))

-- one more above
pub between-more : (x a b : ℕ) → a ≤ b → between x a (b + 1) ≡ between x a b + only x b
between-more x a b h = dite (ℕ_discrete b x)
    (λ e. omega (arith, between-in x a (b + 1) (omega arith) (omega arith), between-high x a b (omega arith), only-same x b e))
    (λ n. dite (dec_le a x)
    (λ y. dite (dec_le b x)
    (λ z. omega (arith, between-high x a (b + 1) (omega arith), between-high x a b z, only-other x b n))
    (λ z. omega (arith, between-in x a (b + 1) y (omega arith), between-in x a b y (omega arith), only-other x b n)))
    (λ y. omega (arith, between-low x a (b + 1) (omega arith), between-low x a b (omega arith), only-other x b n)))

-- one less below
pub between-less : (x a b : ℕ) → a < b → between x (a + 1) b + only x a ≡ between x a b
between-less x a b h = dite (ℕ_discrete a x)
    (λ e. omega (arith, between-low x (a + 1) b (omega arith), between-in x a b (omega arith) (omega arith), only-same x a e))
    (λ n. dite (dec_le a x)
    (λ y. dite (dec_le b x)
    (λ z. omega (arith, between-high x (a + 1) b z, between-high x a b z, only-other x a n))
    (λ z. omega (arith, between-in x (a + 1) b (omega arith) (omega arith), between-in x a b y (omega arith), only-other x a n)))
    (λ y. omega (arith, between-low x (a + 1) b (omega arith), between-low x a b (omega arith), only-other x a n)))
