-- Items of lists at their places, and lists of which something holds.
use Rattle.std.proofs.Common.{◌≡◌, ℕ, zero, suc, ◌<◌, List, [], ◌∷◌, ◌++◌, length, refl, ap, arith, slice_get, set, Option, Some, None, Result, Ok, Err, OnOk, OnErr}
use Rattle.std.specs.Prelude.{IfSome}
use Rattle.std.specs.List.{AllByRecursion, filter_map}
use Rattle.guest_rounds.specs.Rounds.{IsThere}

pub all-append : {A : Type 0} (P : A → Type 0) (xs ys : List A) → AllByRecursion P xs → AllByRecursion P ys → AllByRecursion P (xs ++ ys)
all-append P [] ys all more = more
all-append P (x ∷ xs) ys all more = (all.0, all-append P xs ys all.1 more)

pub all_weak : {A : Type 0} (P Q : A → Type 0) (xs : List A) → ((x : A) → P x → Q x) → AllByRecursion P xs → AllByRecursion Q xs
all_weak P Q [] f all = tt
all_weak P Q (x ∷ xs) f all = (f x all.0, all_weak P Q xs f all.1)

pub set_same : {A : Type 0} (xs : List A) (i : ℕ) (x : A) → i < length xs → slice_get (set xs i x) i ≡ Some x
set_same [] i x within = absurd (omega arith)
set_same (y ∷ ys) zero x within = refl
set_same (y ∷ ys) (suc i) x within = set_same ys i x (omega arith)

pub set_other : {A : Type 0} (xs : List A) (i j : ℕ) (x : A) → (j ≡ i → ⊥) → slice_get (set xs i x) j ≡ slice_get xs j
set_other [] i j x other = refl
set_other (y ∷ ys) zero zero x other = absurd (other refl)
set_other (y ∷ ys) zero (suc j) x other = refl
set_other (y ∷ ys) (suc i) zero x other = refl
set_other (y ∷ ys) (suc i) (suc j) x other = set_other ys i j x (λ e. other (ap suc e))

-- ---- answers that are all there

pub present_long : {R : Type 0} (P : ℕ → R → Type 0) (xs : List (Option R)) → ((g : ℕ) → g < length xs → IsThere (P g) (slice_get xs g)) → length (filter_map (λ x. x) xs) ≡ length xs
present_long P [] all = refl
present_long P (None ∷ xs) all = absurd (all 0 (omega arith))
present_long P (Some r ∷ xs) all = ap suc (present_long (λ g. P (suc g)) xs (λ g l. all (suc g) (omega (arith, l))))

pub present_told : {R : Type 0} (P : ℕ → R → Type 0) (xs : List (Option R)) → ((g : ℕ) → g < length xs → IsThere (P g) (slice_get xs g)) → (g : ℕ) → IfSome (slice_get (filter_map (λ x. x) xs) g) (P g)
present_told P [] all g = tt
present_told P (None ∷ xs) all g = absurd (all 0 (omega arith))
present_told P (Some r ∷ xs) all zero = all 0 (omega arith)
present_told P (Some r ∷ xs) all (suc g) = present_told (λ g. P (suc g)) xs (λ g l. all (suc g) (omega (arith, l))) g

-- ---- answers of calls

pub on_err : {T E : Type 0} (r : Result T E) (P : Type 0) → P → OnErr r P
on_err (Ok x) P p = tt
on_err (Err e) P p = p

pub on_ok : {T E : Type 0} (r : Result T E) (P : Type 0) → P → OnOk r P
on_ok (Ok x) P p = p
on_ok (Err e) P p = tt
