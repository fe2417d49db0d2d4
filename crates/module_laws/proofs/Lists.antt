-- Lists of mappings and of regions.
use Rattle.std.proofs.Common.{◌≡◌, ℕ, ◌==◌, ◌||◌, ◌⊎◌, Bool, true, false, List, [], ◌∷◌, ◌++◌, Option, Some, None, refl, sym, ◌∙◌, subst, arith, inl, inr}
use Rattle.std.specs.Prelude.{find, not}
use Rattle.std.specs.List.{list_any}
use Rattle.std.proofs.lemmas.Bool.{cases_Bool}
use Rattle.std.proofs.lemmas.Bool.Decides.{nat_tests}
use Rattle.std.proofs.lemmas.Option.{same_Some}
use Rattle.plain_machine.specs.declared.io.Mapping.{Mapping}
use Rattle.plain_machine.specs.Memory.{without_first}
use Rattle.plain_machine.specs.Calls.{is_module}

pub or-more : (a b : Bool) → b ≡ true → (a || b) ≡ true
or-more true b e = refl
or-more false b e = e

pub none-some : {A : Type 0} (o : Option A) (x : A) → o ≡ None → o ≡ Some x → ⊥
none-some None x e f = cc
none-some (Some y) x e f = cc

module _ {A : Type 0} where
  pub find-more : (p : A → Bool) (xs ys : List A) (x : A) → find p xs ≡ Some x → find p (xs ++ ys) ≡ Some x
  find-more p [] ys x e = absurd (cc)
  find-more p (y ∷ xs) ys x e = elim (cases_Bool (p y)) [
    | inl here ↦ let is : Some y ≡ Some x = rw here at e in rw here is
    | inr other ↦ let rest : find p xs ≡ Some x = rw other at e in rw other (find-more p xs ys x rest)
  ]

  pub find-less : (p : A → Bool) (xs ys : List A) → find p (xs ++ ys) ≡ None → find p xs ≡ None
  find-less p [] ys e = refl
  find-less p (y ∷ xs) ys e = elim (cases_Bool (p y)) [
    | inl here ↦ let wrong = rw here at e in absurd (cc)
    | inr other ↦ let rest : find p (xs ++ ys) ≡ None = rw other at e in rw other (find-less p xs ys rest)
  ]

  pub find-last : (p : A → Bool) (xs : List A) (y x : A) → find p (xs ++ y ∷ []) ≡ Some x → (find p xs ≡ Some x) ⊎ ((p y ≡ true) × (y ≡ x))
  find-last p [] y x e = elim (cases_Bool (p y)) [
    | inl here ↦ (let is : Some y ≡ Some x = rw here at e in inr (here, same_Some y x is))
    | inr other ↦ let wrong = rw other at e in absurd (cc)
  ]
  find-last p (z ∷ xs) y x e = elim (cases_Bool (p z)) [
    | inl here ↦ let is : Some z ≡ Some x = rw here at e in inl (rw here is)
    | inr other ↦ let rest : find p (xs ++ y ∷ []) ≡ Some x = rw other at e in elim (find-last p xs y x rest) [ inl old ↦ inl (rw other old) | inr new ↦ inr new ]
  ]

  none_last : (p : A → Bool) (xs : List A) (y : A) → p y ≡ false → find p xs ≡ None → find p (xs ++ y ∷ []) ≡ None
  none_last p [] y off e = rw off refl
  none_last p (z ∷ xs) y off e = elim (cases_Bool (p z)) [
    | inl here ↦ let wrong = rw here at e in absurd (cc)
    | inr other ↦ let rest : find p xs ≡ None = rw other at e in rw other (none_last p xs y off rest)
  ]

  pub once-other : (p : A → Bool) (xs : List A) (y : A) → p y ≡ false → find p (without_first p xs) ≡ None → find p (without_first p (xs ++ y ∷ [])) ≡ None
  once-other p [] y off e = rw off (rw off refl)
  once-other p (z ∷ xs) y off e = elim (cases_Bool (p z)) [
    | inl here ↦ let rest : find p xs ≡ None = rw here at e in rw here (none_last p xs y off rest)
    | inr other ↦ let rest : find p (without_first p xs) ≡ None = (let e1 = rw other at e in rw other at e1) in rw other (rw other (once-other p xs y off rest))
  ]

  pub once-last : (p : A → Bool) (xs : List A) (x : A) → list_any p xs ≡ false → p x ≡ true → find p (without_first p (xs ++ x ∷ [])) ≡ None
  once-last p [] x none here = rw here refl
  once-last p (z ∷ xs) x none here = elim (cases_Bool (p z)) [
    | inl wrong ↦ let no_way = rw wrong at none in absurd (cc)
    | inr other ↦ let rest : list_any p xs ≡ false = rw other at none in rw other (rw other (once-last p xs x rest here))
  ]

  none_without : (p q : A → Bool) (xs : List A) → find p xs ≡ None → find p (without_first q xs) ≡ None
  none_without p q [] e = refl
  none_without p q (y ∷ xs) e = elim (cases_Bool (p y)) [
    | inl here ↦ let wrong = rw here at e in absurd (cc)
    | inr other ↦
        let rest : find p xs ≡ None = rw other at e in
        elim (cases_Bool (q y)) [ inl gone ↦ rw gone rest | inr kept ↦ rw kept (rw other (none_without p q xs rest)) ]
  ]

  pub once-without : (p q : A → Bool) (xs : List A) → find p (without_first p xs) ≡ None → find p (without_first p (without_first q xs)) ≡ None
  once-without p q [] e = refl
  once-without p q (y ∷ xs) e = elim (cases_Bool (p y)) [
    | inl here ↦
        let rest : find p xs ≡ None = rw here at e in
        elim (cases_Bool (q y)) [ inl gone ↦ rw gone (none_without p p xs rest) | inr kept ↦ rw kept (rw here (none_without p q xs rest)) ]
    | inr other ↦
        let rest : find p (without_first p xs) ≡ None = (let e1 = rw other at e in rw other at e1) in
        elim (cases_Bool (q y)) [ inl gone ↦ rw gone rest | inr kept ↦ rw kept (rw other (rw other (once-without p q xs rest))) ]
  ]

  pub find-apart : (p q : A → Bool) (xs : List A) → ((y : A) → q y ≡ true → p y ≡ false) → find p (without_first q xs) ≡ find p xs
  find-apart p q [] apart = refl
  find-apart p q (y ∷ xs) apart = elim (cases_Bool (q y)) [
    | inl gone ↦ let other : p y ≡ false = apart y gone in rw gone (rw other refl)
    | inr kept ↦ elim (cases_Bool (p y)) [
      | inl here ↦ rw kept (rw here refl)
      | inr other ↦ rw kept (rw other (find-apart p q xs apart))
    ]
  ]

-- ---- modules

pub module-of : (j k f : ℕ) → is_module j (record { «module» = k; file = f }) ≡ true → j ≡ k
module-of j k f e = grind (arith, nat_tests)

same_module : (j k : ℕ) (y : Mapping) → is_module j y ≡ true → is_module k y ≡ true → j ≡ k
same_module j k y a b = grind (arith, nat_tests)

pub modules-apart : (j k : ℕ) → (j ≡ k → ⊥) → (y : Mapping) → is_module k y ≡ true → is_module j y ≡ false
modules-apart j k apart y e = elim (cases_Bool (is_module j y)) [ inl both ↦ absurd (apart (same_module j k y both e)) | inr other ↦ other ]

-- the modules that stay are others
pub module-stays : (j k : ℕ) (ms : List Mapping) (a : Mapping) → find (is_module k) (without_first (is_module k) ms) ≡ None → find (is_module j) (without_first (is_module k) ms) ≡ Some a → (j ≡ k → ⊥) × (find (is_module j) ms ≡ Some a)
module-stays j k ms a once e =
    let apart : j ≡ k → ⊥ = λ same. none-some (find (is_module k) (without_first (is_module k) ms)) a once (subst (λ i. find (is_module i) (without_first (is_module k) ms) ≡ Some a) same e) in
    (apart, sym (find-apart (is_module j) (is_module k) ms (modules-apart j k apart)) ∙ e)

pub not-that : (i k : ℕ) → not (i == k) ≡ true → i ≡ k → ⊥
not-that i k h same = let self : (i == k) ≡ true = grind (arith, nat_tests) in let wrong = rw self at h in cc
