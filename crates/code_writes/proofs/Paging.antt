-- The pages that a block meets: the page of its first byte and the page of its last one.
use Rattle.std.proofs.Common.{◌≡◌, ◌≢◌, ℕ, ◌+◌, ◌-◌, ◌*◌, ◌/◌, ◌<◌, ◌≤◌, ◌&&◌, Bool, true, false, cond, eqb, nat_lt, refl, sym, ◌∙◌, ap, arith, inl, inr, eq-eqb, ne_eqb, lt-ltb, le-ltb}
use mathlib.Core.Logic.{dite}
use native.Mathlib.Decide.{ℕ_discrete}
use Rattle.std.proofs.lemmas.Bool.{cases_lt}
use Rattle.code_writes.specs.Block.{is_on}

both : (a b : Bool) → a ≡ true → b ≡ true → (a && b) ≡ true
both a b p q = λ i. p i && q i

first_not : (a b : Bool) → a ≡ false → (a && b) ≡ false
first_not a b p = ap (λ c. c && b) p

second_not : (a b : Bool) → b ≡ false → (a && b) ≡ false
second_not true b p = p
second_not false b p = refl

pub on : (a len p : ℕ) → p * 256 < a + len → a < p * 256 + 256 → is_on a len p ≡ true
unfolding is_on
on a len p low high = both _ _ (lt-ltb (p * 256) (a + len) low) (lt-ltb a (p * 256 + 256) high)

-- where a block meets a page
pub on-bounds : (a len p : ℕ) → is_on a len p ≡ true → (p * 256 < a + len) × (a < p * 256 + 256)
unfolding is_on
on-bounds a len p is = elim (cases_lt (p * 256) (a + len)) [
  | inl low ↦ elim (cases_lt a (p * 256 + 256)) [
    | inl high ↦ (low, high)
    | inr past ↦ let no = second_not (nat_lt (p * 256) (a + len)) (nat_lt a (p * 256 + 256)) (le-ltb a (p * 256 + 256) past) in let clash : false ≡ true = sym no ∙ is in cc
  ]
  | inr past ↦ let no = first_not (nat_lt (p * 256) (a + len)) (nat_lt a (p * 256 + 256)) (le-ltb (p * 256) (a + len) past) in let clash : false ≡ true = sym no ∙ is in cc
]

pub off_low : (a len p : ℕ) → a + len ≤ p * 256 → is_on a len p ≡ false
unfolding is_on
off_low a len p h = first_not _ _ (le-ltb (p * 256) (a + len) h)

pub off_high : (a len p : ℕ) → p * 256 + 256 ≤ a → is_on a len p ≡ false
unfolding is_on
off_high a len p h = second_not (nat_lt (p * 256) (a + len)) _ (le-ltb a (p * 256 + 256) h)

module _ (a len first last : ℕ) (some : 0 < len) (short : len ≤ 256) (f : first ≡ a / 256) (l : last ≡ (a + (len - 1)) / 256) where
  on_first : is_on a len first ≡ true
  on_first = on a len first (omega arith) (omega arith)

  on_last : is_on a len last ≡ true
  on_last = on a len last (omega arith) (omega arith)

  off : (p : ℕ) → p ≢ first → p ≢ last → is_on a len p ≡ false
  off p n m = elim (cases_lt p first) [
    | inl low ↦ off_high a len p (omega arith)
    | inr more ↦ off_low a len p (omega (arith, n, m))
  ]

  -- what is done to the two pages is done to those that the block meets
  module _ {A : Type 0} (g : A → A) (x y : A) (p : ℕ) where
    pub on_two : (z : A) → first < last → y ≡ cond (eqb p first) (g x) x → z ≡ cond (eqb p last) (g y) y → z ≡ cond (is_on a len p) (g x) x
    on_two z less is_y is_z = dite (ℕ_discrete p first)
        (λ e. let m : p ≢ last = λ q. absurd (omega arith) in
        is_z ∙ ap (λ b. cond b (g y) y) (ne_eqb p last m) ∙ is_y ∙ ap (λ b. cond b (g x) x) (eq-eqb p first e) ∙ sym (ap (λ b. cond b (g x) x) (ap (is_on a len) e ∙ on_first)))
        (λ n. let same : y ≡ x = is_y ∙ ap (λ b. cond b (g x) x) (ne_eqb p first n) in dite (ℕ_discrete p last)
        (λ e. is_z ∙ ap (λ b. cond b (g y) y) (eq-eqb p last e) ∙ ap g same ∙ sym (ap (λ b. cond b (g x) x) (ap (is_on a len) e ∙ on_last)))
        (λ m. is_z ∙ ap (λ b. cond b (g y) y) (ne_eqb p last m) ∙ same ∙ sym (ap (λ b. cond b (g x) x) (off p n m))))

    pub on_one : last ≤ first → y ≡ cond (eqb p first) (g x) x → y ≡ cond (is_on a len p) (g x) x
    on_one le is_y = dite (ℕ_discrete p first)
        (λ e. is_y ∙ ap (λ b. cond b (g x) x) (eq-eqb p first e) ∙ sym (ap (λ b. cond b (g x) x) (ap (is_on a len) e ∙ on_first)))
        (λ n. is_y ∙ ap (λ b. cond b (g x) x) (ne_eqb p first n) ∙ sym (ap (λ b. cond b (g x) x) (off p n (λ e. n (omega arith)))))

  -- a page that the block does not meet is not the first
  pub not_first : (p : ℕ) → is_on a len p ≡ false → eqb p first ≡ false
  not_first p out = ne_eqb p first (λ e. let clash : true ≡ false = sym (ap (is_on a len) e ∙ on_first) ∙ out in cc)
