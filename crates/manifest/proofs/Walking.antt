-- The tables of a list, one after the other.
use Rattle.std.proofs.Common.{◌≡◌, ℕ, ◌+◌, ◌<◌, ◌≤◌, List, [], ◌∷◌, ◌++◌, length, drop, get_or, true, Some, None, refl, ap, sym, subst, ◌∙◌, arith}
use Rattle.std.specs.Prelude.{All, unwrap_or}
use Rattle.std.proofs.lemmas.Bool.{and_parts}
use Rattle.std.proofs.lemmas.List.{append_assoc, append-nil, length-append, drop_all}
use Rattle.std.proofs.lemmas.List.Elements.{All-nil, All-push}
use Rattle.toml.specs.declared.value.Value.{Value}
use Rattle.toml.specs.Data.{Data, Items, no_items, item, Members, no_members, as_table}
use Rattle.toml.specs.View.{view, items_view}
use Rattle.toml.proofs.Views.{items_view-drop}
use Rattle.manifest.specs.declared.error.ManifestErr.{ManifestErr}
use Rattle.manifest.specs.Keys.{Rule, first_of, first_in, each_item, is_table}
use Rattle.manifest.specs.Manifest.{table_of, rows_in, rules_each}
use Rattle.manifest.proofs.Faults.{first_in-append}

-- the rules that are left are tested as all were, and the rows so far with those that are left are all
pub record IsWalk {Row : Type 0} (row_of : Members → Row) (rules : List Row → Members → List (List Rule)) (P : Row → Type 0) (all rest : Items) (rows : List Row) (i : ℕ) : Type 0 where
  pub faults : first_in (rules_each row_of rules rows rest) ≡ first_in (rules_each row_of rules [] all)
  pub values : rows ++ rows_in row_of rest ≡ rows_in row_of all
  pub count : length rows ≡ i
  pub tables : each_item is_table rest ≡ true
  pub each : All P rows

module _ {Row : Type 0} (row_of : Members → Row) (rules : List Row → Members → List (List Rule)) (P : Row → Type 0) where
  walk_start : (all : Items) → each_item is_table all ≡ true → IsWalk row_of rules P all all [] 0
  walk_start all tables = record { faults = refl; values = refl; count = refl; tables = tables; each = All-nil P }

  walk_on : (all rest : Items) (d : Data) (rows : List Row) (i : ℕ) (row : Row) → IsWalk row_of rules P all (item d rest) rows i
      → first_in (rules rows (table_of d)) ≡ None → row ≡ row_of (table_of d) → P row → IsWalk row_of rules P all rest (rows ++ row ∷ []) (i + 1)
  unfolding rules_each rows_in
  walk_on all rest d rows i row walk passes is holds = record {
    faults =
        ap (λ r. first_in (rules_each row_of rules (rows ++ r ∷ []) rest)) is
        ∙ sym (first_in-append (rules rows (table_of d)) (rules_each row_of rules (rows ++ row_of (table_of d) ∷ []) rest)
        ∙ ap (λ o. first_of o (first_in (rules_each row_of rules (rows ++ row_of (table_of d) ∷ []) rest))) passes)
        ∙ walk.faults;
    values = append_assoc rows (row ∷ []) (rows_in row_of rest) ∙ ap (λ r. rows ++ r ∷ rows_in row_of rest) is ∙ walk.values;
    count = omega (arith, length-append rows (row ∷ []), walk.count);
    tables = (and_parts (is_table d) (each_item is_table rest) walk.tables).1;
    each = All-push P rows row walk.each holds;
  }

  walk_stop : (all rest : Items) (d : Data) (rows : List Row) (i : ℕ) (e : ManifestErr) → IsWalk row_of rules P all (item d rest) rows i
      → first_in (rules rows (table_of d)) ≡ Some e → first_in (rules_each row_of rules [] all) ≡ Some e
  unfolding rules_each
  walk_stop all rest d rows i e walk fails =
      sym walk.faults
      ∙ first_in-append (rules rows (table_of d)) (rules_each row_of rules (rows ++ row_of (table_of d) ∷ []) rest)
      ∙ ap (λ o. first_of o (first_in (rules_each row_of rules (rows ++ row_of (table_of d) ∷ []) rest))) fails

  walk_end : (all : Items) (rows : List Row) (i : ℕ) → IsWalk row_of rules P all no_items rows i → (first_in (rules_each row_of rules [] all) ≡ None) × (rows ≡ rows_in row_of all)
  unfolding rules_each rows_in
  walk_end all rows i walk = (sym walk.faults, sym (append-nil rows) ∙ walk.values)

-- a value of the list, and those behind it
pub items_from : (vs : List Value) (i : ℕ) (v : Value) → i < length vs → v ≡ get_or vs i v → items_view (drop i vs) ≡ item (view v) (items_view (drop (i + 1) vs))
items_from vs i v h is = items_view-drop vs i v h ∙ ap (λ x. item (view x) (items_view (drop (i + 1) vs))) (sym is)

-- the members of what is a table
members_of : (d : Data) (t : Members) → Some t ≡ as_table d → t ≡ table_of d
members_of d t is = ap (λ o. unwrap_or o no_members) is

module _ {Row : Type 0} (row_of : Members → Row) (rules : List Row → Members → List (List Rule)) (P : Row → Type 0) (vs : List Value) (i : ℕ) (v : Value) (t : Members) (rows : List Row) where
  -- one table more
  pub goes_on : (before more : List Row) (row : Row) → i < length vs → v ≡ get_or vs i v → Some t ≡ as_table (view v) → before ≡ rows
      → IsWalk row_of rules P (items_view vs) (items_view (drop i vs)) rows i → first_in (rules before t) ≡ None → row ≡ row_of t → P row → more ≡ rows ++ row ∷ []
      → IsWalk row_of rules P (items_view vs) (items_view (drop (i + 1) vs)) more (i + 1)
  goes_on before more row within is table same walk passes made holds longer =
      subst (λ rs. IsWalk row_of rules P (items_view vs) (items_view (drop (i + 1) vs)) rs (i + 1)) (sym longer)
      (walk_on row_of rules P (items_view vs) (items_view (drop (i + 1) vs)) (view v) rows i row
      (subst (λ ds. IsWalk row_of rules P (items_view vs) ds rows i) (items_from vs i v within is) walk)
      (ap (λ rs. first_in (rules rs (table_of (view v)))) (sym same) ∙ ap (λ ms. first_in (rules before ms)) (sym (members_of (view v) t table)) ∙ passes)
      (made ∙ ap row_of (members_of (view v) t table)) holds)

  -- a table with a rule that fails
  pub stops : (before : List Row) (e : ManifestErr) → i < length vs → v ≡ get_or vs i v → Some t ≡ as_table (view v) → before ≡ rows
      → IsWalk row_of rules P (items_view vs) (items_view (drop i vs)) rows i → first_in (rules before t) ≡ Some e → first_in (rules_each row_of rules [] (items_view vs)) ≡ Some e
  stops before e within is table same walk fails =
      walk_stop row_of rules P (items_view vs) (items_view (drop (i + 1) vs)) (view v) rows i e
      (subst (λ ds. IsWalk row_of rules P (items_view vs) ds rows i) (items_from vs i v within is) walk)
      (ap (λ rs. first_in (rules rs (table_of (view v)))) (sym same) ∙ ap (λ ms. first_in (rules before ms)) (sym (members_of (view v) t table)) ∙ fails)

-- all tables
pub ends : {Row : Type 0} (row_of : Members → Row) (rules : List Row → Members → List (List Rule)) (P : Row → Type 0) (vs : List Value) (i : ℕ) (rows : List Row)
    → length vs ≤ i → IsWalk row_of rules P (items_view vs) (items_view (drop i vs)) rows i
    → (first_in (rules_each row_of rules [] (items_view vs)) ≡ None) × (rows ≡ rows_in row_of (items_view vs))
ends row_of rules P vs i rows past walk =
    walk_end row_of rules P (items_view vs) rows i (subst (λ ds. IsWalk row_of rules P (items_view vs) (items_view ds) rows i) (drop_all i vs past) walk)
