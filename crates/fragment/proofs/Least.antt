-- The least number that passes a test.
use Rattle.std.proofs.Common.{◌≡◌, ℕ, zero, suc, ◌+◌, ◌<◌, ◌≤◌, ◌⊎◌, Bool, true, false, refl, sym, subst, arith, inl, inr}
use Rattle.std.proofs.lemmas.Bool.{cases_Bool, cases_lt}
use Rattle.fragment.specs.Build.{least}

pub cases_eq : (k n : ℕ) → k ≤ n → (k ≡ n) ⊎ (k < n)
cases_eq k n h = elim (cases_lt k n) [ inl less ↦ inr less | inr more ↦ inl (omega arith) ]

-- it is the number before which all fail, and which passes where there is one more
pub least_is : (test : ℕ → Bool) (k more n : ℕ) → k ≤ n → n ≤ k + more → ((j : ℕ) → k ≤ j → j < n → test j ≡ false) → ((n ≡ k + more → ⊥) → test n ≡ true) → least test k more ≡ n
least_is test k zero n low high fails passes = omega arith
least_is test k (suc more) n low high fails passes = elim (cases_Bool (test k)) [
  | inl passed ↦ rw passed (elim (cases_eq k n low) [ inl same ↦ same | inr less ↦ let failed : test k ≡ false = fails k (omega arith) less in absurd (cc) ])
  | inr failed ↦ rw failed (least_is test (k + 1) more n
      (elim (cases_eq k n low) [ inl same ↦ let there : test n ≡ true = passes (λ e. omega arith) in let here : test k ≡ true = subst (λ m. test m ≡ true) (sym same) there in absurd (cc) | inr less ↦ omega arith ])
      (omega arith) (λ j l h. fails j (omega arith) h) (λ not_last. passes (λ e. not_last (omega arith))))
]

pub least_low : (test : ℕ → Bool) (k more : ℕ) → k ≤ least test k more
least_low test k zero = omega arith
least_low test k (suc more) = elim (cases_Bool (test k)) [ inl passed ↦ rw passed (omega arith) | inr failed ↦ rw failed (omega (arith, least_low test (k + 1) more)) ]

pub least_high : (test : ℕ → Bool) (k more : ℕ) → least test k more ≤ k + more
least_high test k zero = omega arith
least_high test k (suc more) = elim (cases_Bool (test k)) [ inl passed ↦ rw passed (omega arith) | inr failed ↦ rw failed (omega (arith, least_high test (k + 1) more)) ]

-- each number before it fails
pub least_fails : (test : ℕ → Bool) (k more j : ℕ) → k ≤ j → j < least test k more → test j ≡ false
least_fails test k zero j low high = absurd (omega arith)
least_fails test k (suc more) j low high = elim (cases_Bool (test k)) [
  | inl passed ↦ let h = rw passed at high in absurd (omega arith)
  | inr failed ↦ let h = rw failed at high in elim (cases_eq k j low) [
    | inl same ↦ subst (λ x. test x ≡ false) same failed
    | inr less ↦ least_fails test (k + 1) more j (omega arith) h
  ]
]

-- it passes, or is the last one
pub least_ends : (test : ℕ → Bool) (k more : ℕ) → (test (least test k more) ≡ true) ⊎ (least test k more ≡ k + more)
least_ends test k zero = inr (omega arith)
least_ends test k (suc more) = elim (cases_Bool (test k)) [
  | inl passed ↦ rw passed (inl passed)
  | inr failed ↦ rw failed (elim (least_ends test (k + 1) more) [ inl there ↦ inl there | inr full ↦ inr (omega arith) ])
]

-- one step of the search
pub least-failed : (test : ℕ → Bool) (k more n : ℕ) → more ≡ suc n → test k ≡ false → least test k more ≡ least test (k + 1) n
least-failed test k more n one failed = subst (λ m. least test k m ≡ least test (k + 1) n) (sym one) (rw failed refl)

pub least-passed : (test : ℕ → Bool) (k more n : ℕ) → more ≡ suc n → test k ≡ true → least test k more ≡ k
least-passed test k more n one passed = subst (λ m. least test k m ≡ k) (sym one) (rw passed refl)
