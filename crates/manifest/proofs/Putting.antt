-- The texts of a list, put into a table one after the other.
use Rattle.std.proofs.Common.{◌≡◌, ℕ, ◌+◌, ◌<◌, Bool, true, false, cond, not, List, [], ◌∷◌, ◌++◌, length, drop, get_or, map, sym, ap, ◌∙◌, arith}
use Rattle.std.specs.Prelude.{All}
use Rattle.std.specs.List.{list_all}
use Rattle.std.proofs.lemmas.Bool.{and_parts}
use Rattle.std.proofs.lemmas.List.{append_assoc, length-append, map-append}
use Rattle.std.proofs.lemmas.List.Elements.{All-nil, All-cons}
use Rattle.toml.specs.declared.value.Value.{Value}
use Rattle.toml.specs.View.{view, items_view}
use Rattle.manifest.specs.Names.{is_among, are_distinct}
use Rattle.manifest.specs.Keys.{text_of}
use Rattle.manifest.specs.Manifest.{texts_in}
use Rattle.manifest.proofs.Walking.{items_from}
use Rattle.manifest.proofs.Distinct.{stays, stops}

of_not : (b c : Bool) → b ≡ not c → c ≡ not b
of_not b true said = ap not (sym said)
of_not b false said = ap not (sym said)

pub all_pass : {A : Type 0} (p : A → Bool) (xs : List A) → list_all p xs ≡ true → All (λ x. p x ≡ true) xs
all_pass p [] h = All-nil (λ x. p x ≡ true)
all_pass p (x ∷ xs) h =
    let q = and_parts (p x) (list_all p xs) h in
    All-cons (λ y. p y ≡ true) x xs q.0 (all_pass p xs q.1)

module _ (vs : List Value) (i : ℕ) (v : Value) (names : List (List ℕ)) (name : List ℕ) (new : Bool) (within : i < length vs) (here : v ≡ get_or vs i v) (is : name ≡ text_of (view v))
    (so_far : names ++ texts_in (items_view (drop i vs)) ≡ texts_in (items_view vs)) (said : new ≡ not (is_among name names)) where
  whole : names ++ name ∷ texts_in (items_view (drop (i + 1) vs)) ≡ texts_in (items_view vs)
  whole = ap (λ n. names ++ n ∷ texts_in (items_view (drop (i + 1) vs))) is ∙ ap (λ ds. names ++ texts_in ds) (sym (items_from vs i v within here)) ∙ so_far

  -- one that stood before
  pub found_again : new ≡ false → false ≡ are_distinct (texts_in (items_view vs))
  found_again old =
      sym (stops names (texts_in (items_view (drop (i + 1) vs))) name (of_not new (is_among name names) said ∙ ap not old)) ∙ ap are_distinct whole

  -- one more
  pub goes_on : (more : List (List ℕ)) → new ≡ true → more ≡ cond new (names ++ name ∷ []) names → length names ≡ i → are_distinct names ≡ true
      → (more ++ texts_in (items_view (drop (i + 1) vs)) ≡ texts_in (items_view vs)) × (length more ≡ i + 1) × (are_distinct more ≡ true)
  goes_on more fresh put count distinct =
      let longer : more ≡ names ++ name ∷ [] = put ∙ ap (λ b. cond b (names ++ name ∷ []) names) fresh in
      rw longer (
        append_assoc names (name ∷ []) (texts_in (items_view (drop (i + 1) vs))) ∙ whole,
        omega (arith, length-append names (name ∷ []), count),
        stays names name (of_not new (is_among name names) said ∙ ap not fresh) distinct,
      )

-- the names of rows, where a row with a new name is put behind them
pub grown : {Row : Type 0} (f : Row → List ℕ) (rows before more : List Row) (row : Row) (names longer : List (List ℕ)) (name : List ℕ) (new : Bool)
    → names ≡ map f rows → before ≡ rows → is_among (f row) (map f before) ≡ false → name ≡ f row → new ≡ not (is_among name names)
    → longer ≡ cond new (names ++ name ∷ []) names → more ≡ rows ++ row ∷ [] → longer ≡ map f more
grown f rows before more row names longer name new named same fresh is said put on =
    let absent : is_among name names ≡ false = (λ i. is_among (is i) (named i)) ∙ ap (λ rs. is_among (f row) (map f rs)) (sym same) ∙ fresh in
    put
    ∙ ap (λ b. cond b (names ++ name ∷ []) names) (said ∙ ap not absent)
    ∙ (λ i. named i ++ is i ∷ [])
    ∙ sym (map-append f rows (row ∷ []))
    ∙ ap (map f) (sym on)

-- a name that is put into a table leaves its names distinct
pub distinct_more : (names more : List (List ℕ)) (name : List ℕ) (new : Bool) → new ≡ not (is_among name names) → more ≡ cond new (names ++ name ∷ []) names
    → are_distinct names ≡ true → are_distinct more ≡ true
distinct_more names more name true said put distinct = ap are_distinct put ∙ stays names name (of_not true (is_among name names) said) distinct
distinct_more names more name false said put distinct = ap are_distinct put ∙ distinct
