-- Items by their place in lists that are joined.
use Rattle.std.proofs.Common.{◌≡◌, ℕ, zero, suc, ◌+◌, ◌-◌, ◌*◌, ◌<◌, List, [], ◌∷◌, ◌++◌, length, Some, flat_map, refl, ap, sym, ◌∙◌, arith, zero-add, suc-add, zero-mul, suc-mul, inl, inr, length-append, append_assoc, append-nil}
use Rattle.std.specs.Prelude.{slice_get}
use Rattle.std.specs.List.{range_with_len}
use Rattle.std.proofs.lemmas.Bool.{cases_lt}
use Rattle.std.proofs.lemmas.Option.{same_Some}

pub get_left : {A : Type 0} (xs ys : List A) (i : ℕ) → i < length xs → slice_get (xs ++ ys) i ≡ slice_get xs i
get_left [] ys i lt = absurd (omega (arith, lt))
get_left (x ∷ xs) ys zero lt = refl
get_left (x ∷ xs) ys (suc i) lt = get_left xs ys i (omega (arith, lt))

pub get_right : {A : Type 0} (xs ys : List A) (i : ℕ) → slice_get (xs ++ ys) (length xs + i) ≡ slice_get ys i
get_right [] ys i = ap (slice_get ys) (zero-add i)
get_right (x ∷ xs) ys i = ap (slice_get (x ∷ (xs ++ ys))) (suc-add (length xs) i) ∙ get_right xs ys i

-- the p-th item of the k-th piece is y, which stands there
pub record IsPlace {X A : Type 0} (f : X → List A) (n : ℕ) (xs : List X) (i : ℕ) (y : A) : Type 0 where
  pub k : ℕ
  pub p : ℕ
  pub x : X
  pub item : slice_get xs k ≡ Some x
  pub inner : slice_get (f x) p ≡ Some y
  pub is : i ≡ k * n + p

module _ {X A : Type 0} (f : X → List A) (n : ℕ) (size : (x : X) → length (f x) ≡ n) where
  pub length_joined : (xs : List X) → length (flat_map f xs) ≡ length xs * n
  length_joined [] = sym (zero-mul n)
  length_joined (x ∷ xs) = omega (arith, length-append (f x) (flat_map f xs), size x, length_joined xs, suc-mul (length xs) n)

  first_place : (p : ℕ) → zero * n + p ≡ p
  first_place p = omega (arith, zero-mul n)

  next_place : (x : X) (k p : ℕ) → suc k * n + p ≡ length (f x) + (k * n + p)
  next_place x k p = omega (arith, suc-mul k n, size x)

  pub get_at : (xs : List X) (k p : ℕ) (x : X) → slice_get xs k ≡ Some x → p < n → slice_get (flat_map f xs) (k * n + p) ≡ slice_get (f x) p
  get_at [] k p x h lt = absurd cc
  get_at (y ∷ ys) zero p x h lt =
      let within : p < length (f y) = omega (arith, size y, lt) in
      ap (slice_get (f y ++ flat_map f ys)) (first_place p) ∙ get_left (f y) (flat_map f ys) p within ∙ ap (λ z. slice_get (f z) p) (same_Some y x h)
  get_at (y ∷ ys) (suc k) p x h lt =
      ap (slice_get (f y ++ flat_map f ys)) (next_place y k p) ∙ get_right (f y) (flat_map f ys) (k * n + p) ∙ get_at ys k p x h lt

  pub place_in : (xs : List X) (i : ℕ) (y : A) → slice_get (flat_map f xs) i ≡ Some y → IsPlace f n xs i y
  place_in [] i y h = absurd cc
  place_in (x ∷ xs) i y h = elim (cases_lt i (length (f x))) [
    | inl lt ↦ record { k = 0; p = i; x = x; item = refl; inner = sym (get_left (f x) (flat_map f xs) i lt) ∙ h; is = sym (first_place i) }
    | inr le ↦
        let back : length (f x) + (i - length (f x)) ≡ i = omega (arith, le) in
        let rest = place_in xs (i - length (f x)) y (sym (get_right (f x) (flat_map f xs) (i - length (f x))) ∙ ap (slice_get (f x ++ flat_map f xs)) back ∙ h) in
        record { k = suc rest.k; p = rest.p; x = rest.x; item = rest.item; inner = rest.inner; is = sym back ∙ ap (λ q. length (f x) + q) rest.is ∙ sym (next_place x rest.k rest.p) }
  ]

-- ---- numbers in a row

pub number_at : (a n i : ℕ) → i < n → slice_get (range_with_len a n) i ≡ Some (a + i)
number_at a zero i lt = absurd (omega (arith, lt))
number_at a (suc n) zero lt = let e : a ≡ a + zero = omega arith in ap Some e
number_at a (suc n) (suc i) lt =
    let e : a + 1 + i ≡ a + suc i = omega arith in
    number_at (a + 1) n i (omega (arith, lt)) ∙ ap Some e

pub at_number : (a n i s : ℕ) → slice_get (range_with_len a n) i ≡ Some s → s ≡ a + i
at_number a zero i s h = absurd cc
at_number a (suc n) zero s h = let e : a ≡ a + zero = omega arith in sym (same_Some a s h) ∙ e
at_number a (suc n) (suc i) s h = let e : a + 1 + i ≡ a + suc i = omega arith in at_number (a + 1) n i s h ∙ e

one_after : (a n : ℕ) → range_with_len a (suc n) ≡ range_with_len a n ++ (a + n) ∷ []
one_after a zero = let e : a ≡ a + zero = omega arith in ap (λ k. k ∷ []) e
one_after a (suc n) =
    let e : a + 1 + n ≡ a + suc n = omega arith in
    ap (λ ks. a ∷ ks) (one_after (a + 1) n ∙ ap (λ k. range_with_len (a + 1) n ++ k ∷ []) e)

-- one number more
pub numbers_more : (n : ℕ) → range_with_len 0 (n + 1) ≡ range_with_len 0 n ++ n ∷ []
numbers_more n =
    let next : n + 1 ≡ suc n = omega arith in
    ap (range_with_len 0) next ∙ one_after 0 n ∙ ap (λ k. range_with_len 0 n ++ k ∷ []) (zero-add n)

-- ---- lists joined, one piece more

pub pieces_more : {X A : Type 0} (f : X → List A) (xs : List X) (x : X) → flat_map f (xs ++ x ∷ []) ≡ flat_map f xs ++ f x
pieces_more f [] x = append-nil (f x)
pieces_more f (y ∷ ys) x = ap (λ rest. f y ++ rest) (pieces_more f ys x) ∙ sym (append_assoc (f y) (flat_map f ys) (f x))
