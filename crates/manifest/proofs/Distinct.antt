-- Names that are put behind others.
use Rattle.std.proofs.Common.{◌≡◌, ℕ, Bool, true, false, ◌&&◌, ◌||◌, not, List, [], ◌∷◌, ◌++◌, refl, sym, ap, ◌∙◌, inl, inr}
use Rattle.std.specs.Str.{bytes_eq}
use Rattle.std.specs.Cmp.{IsEquivalence}
use Rattle.std.specs.List.{list_any}
use Rattle.std.proofs.lemmas.Bool.{cases_Bool, and_parts, or_parts}
use Rattle.std.proofs.lemmas.Cmp.{nat_list_eq_equiv}
use Rattle.std.proofs.lemmas.List.Folds.{list_any-append}
use Rattle.manifest.specs.Names.{is_among, are_distinct}
use Rattle.manifest.proofs.Named.{some_found}

same_bytes : IsEquivalence bytes_eq
same_bytes = nat_list_eq_equiv

not_true : (b : Bool) → not b ≡ true → b ≡ false
not_true true h = sym h
not_true false h = refl

and_false : (b : Bool) → (b && false) ≡ false
and_false true = refl
and_false false = refl

or_true : (b : Bool) → (b || true) ≡ true
or_true true = refl
or_true false = refl

among_behind : (n y : List ℕ) (ns ys : List (List ℕ)) → is_among n (ns ++ y ∷ ys) ≡ (list_any (bytes_eq n) ns || (bytes_eq n y || list_any (bytes_eq n) ys))
among_behind n y ns ys = some_found (bytes_eq n) 0 (ns ++ y ∷ ys) ∙ list_any-append (bytes_eq n) ns (y ∷ ys)

still : (xs : List (List ℕ)) (y : List ℕ) → list_any (bytes_eq y) xs ≡ false → are_distinct xs ≡ true → are_distinct (xs ++ y ∷ []) ≡ true
still [] y absent distinct = refl
still (n ∷ ns) y absent distinct =
    let p = and_parts (not (is_among n ns)) (are_distinct ns) distinct in
    let q = or_parts (bytes_eq y n) (list_any (bytes_eq y) ns) absent in
    let none : list_any (bytes_eq n) ns ≡ false = sym (some_found (bytes_eq n) 0 ns) ∙ not_true (is_among n ns) p.0 in
    let apart : bytes_eq n y ≡ false = same_bytes.symm n y ∙ q.0 in
    let here : is_among n (ns ++ y ∷ []) ≡ false = among_behind n y ns [] ∙ rw (none, apart) refl in
    rw (here, still ns y q.1 p.1) refl

again : (xs ys : List (List ℕ)) (y : List ℕ) → list_any (bytes_eq y) xs ≡ true → are_distinct (xs ++ y ∷ ys) ≡ false
again [] ys y there = absurd cc
again (n ∷ ns) ys y there = elim (cases_Bool (bytes_eq y n)) [
  | inl same ↦
      let is : bytes_eq n y ≡ true = same_bytes.symm n y ∙ same in
      let here : is_among n (ns ++ y ∷ ys) ≡ true = among_behind n y ns ys ∙ rw is (or_true (list_any (bytes_eq n) ns)) in
      rw here refl
  | inr other ↦
      let later : list_any (bytes_eq y) ns ≡ true = sym (ap (λ b. b || list_any (bytes_eq y) ns) other) ∙ there in
      rw (again ns ys y later) (and_false (not (is_among n (ns ++ y ∷ ys))))
]

-- a new name
pub stays : (xs : List (List ℕ)) (y : List ℕ) → is_among y xs ≡ false → are_distinct xs ≡ true → are_distinct (xs ++ y ∷ []) ≡ true
stays xs y absent distinct = still xs y (sym (some_found (bytes_eq y) 0 xs) ∙ absent) distinct

-- a name that stood before
pub stops : (xs ys : List (List ℕ)) (y : List ℕ) → is_among y xs ≡ true → are_distinct (xs ++ y ∷ ys) ≡ false
stops xs ys y there = again xs ys y (sym (some_found (bytes_eq y) 0 xs) ∙ there)
