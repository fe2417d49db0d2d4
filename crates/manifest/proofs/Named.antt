-- Names in a table, as lists of bytes.
use Rattle.std.proofs.Common.{◌≡◌, ℕ, ◌+◌, Bool, cond, List, [], ◌∷◌, map, Some, is_some, refl, sym, ap, ◌∙◌, inl, inr}
use Rattle.std.specs.Global.{Vec}
use Rattle.std.specs.Str.{bytes_eq}
use Rattle.std.specs.List.{position, position_from, list_any}
use Rattle.std.proofs.lemmas.Bool.{cases_Bool}
use Rattle.std.proofs.lemmas.Iterator.Adapters.{position_from-zero}
use Rattle.manifest.specs.Names.{place_of, is_among}

found : {K : Type 0} (f : K → List ℕ) (name : List ℕ) (i : ℕ) (ks : List K) → position_from (λ k. bytes_eq name (f k)) i ks ≡ position_from (bytes_eq name) i (map f ks)
found f name i [] = refl
found f name i (k ∷ ks) = ap (cond (bytes_eq name (f k)) (Some i)) (found f name (i + 1) ks)

pub some_found : {K : Type 0} (test : K → Bool) (i : ℕ) (ks : List K) → is_some (position_from test i ks) ≡ list_any test ks
some_found test i [] = refl
some_found test i (k ∷ ks) = elim (cases_Bool (test k)) [
  | inl passes ↦ rw passes refl
  | inr fails ↦ rw fails (some_found test (i + 1) ks)
]

module _ (kept : List (Vec ℕ)) (name : List ℕ) where
  -- the place of a name
  pub place_is : position (λ k. bytes_eq name k.items) kept ≡ place_of name (map (λ k. k.items) kept)
  place_is = position_from-zero (λ k. bytes_eq name k.items) kept ∙ found (λ k. k.items) name 0 kept

  -- a name is there
  pub has_is : list_any (λ k. bytes_eq name k.items) kept ≡ is_among name (map (λ k. k.items) kept)
  has_is = sym (some_found (λ k. bytes_eq name k.items) 0 kept) ∙ ap is_some (found (λ k. k.items) name 0 kept)

  -- and so by a copy of it
  pub had : (copy : Vec ℕ) → copy.items ≡ name → list_any (λ k. bytes_eq copy.items k.items) kept ≡ is_among name (map (λ k. k.items) kept)
  had copy is = ap (λ n. list_any (λ k. bytes_eq n k.items) kept) is ∙ has_is
