-- Sets of addresses, and the keys of a map.
use Rattle.std.proofs.Common.{◌≡◌, ℕ, ◌+◌, ◌==◌, ◌&&◌, ◌||◌, Bool, true, false, cond, List, [], ◌∷◌, length, map, Option, Some, None, is_some, nat_eq, add-one, Less, refl, sym, ◌∙◌, ap, subst}
use Rattle.std.specs.Prelude.{T, not, if◌then◌else◌, Result, Ok, Err, IfOk}
use Rattle.std.specs.List.{list_any, AllByRecursion}
use Rattle.std.specs.List.Sorted.{IsStrictlySortedBy}
use Rattle.std.specs.Option.{option_map}
use Rattle.std.specs.Ordering.{nat_cmp, eq_by_cmp, is_eq, is_lt}
use Rattle.std.specs.Cmp.{nat_cmp_total}
use Rattle.std.specs.Map.{keys_of}
use Rattle.std.specs.FinMap as fin
use Rattle.std.specs.FinSet as set
use Rattle.std.proofs.lemmas.Map.Lookups.{exact_unsigned}
use Rattle.unit_set.specs.Sets.{has, place}

-- ---- membership

pub member : (ks : List ℕ) (q : ℕ) → set.contains (set.from_list {R = nat_cmp} ks) q ≡ has q ks
member ks q = set.contains-from_list_nat ks q

if_place : (b : Bool) (o : Option ℕ) (c : Bool) → is_some o ≡ c → is_some (if b then Some 0 else option_map (λ k. k + 1) o) ≡ (b || c)
if_place true o c e = refl
if_place false None c e = e
if_place false (Some k) c e = e

pub placed : (q : ℕ) (ks : List ℕ) → is_some (place q ks) ≡ has q ks
placed q [] = refl
placed q (k ∷ ks) = if_place (k == q) (place q ks) (has q ks) (placed q ks)

-- ---- how many

apart : (k : ℕ) (ks : List ℕ) → AllByRecursion (λ y. nat_cmp k y ≡ Less) ks → list_any (eq_by_cmp nat_cmp k) ks ≡ false
apart k [] all = refl
apart k (y ∷ ks) all = ap (λ o. is_eq o || list_any (eq_by_cmp nat_cmp k) ks) all.0 ∙ apart k ks all.1

pub how-many : (ks : List ℕ) → IsStrictlySortedBy nat_cmp ks → set.len (set.from_list {R = nat_cmp} ks) ≡ length ks
unfolding IsStrictlySortedBy
how-many [] sorted = set.len-empty nat_cmp
how-many (k ∷ ks) sorted =
    set.len-insert nat_cmp_total (set.from_list ks) k
    ∙ ap (λ b. cond b (set.len (set.from_list {R = nat_cmp} ks)) (set.len (set.from_list {R = nat_cmp} ks) + 1)) (set.contains-from_list nat_cmp_total ks k ∙ apart k ks sorted.0)
    ∙ ap (λ n. n + 1) (how-many ks sorted.1) ∙ add-one (length ks)

-- ---- keys in order

both : (a b : Bool) → T a → T b → T (a && b)
both true b p q = q
both false b p q = p

module _ {X : Type 0} where
  below : (x : ℕ) (es : List (ℕ × X)) → AllByRecursion (λ y. nat_cmp x y ≡ Less) (keys_of es) → T (fin.Entries.below_all nat_cmp x es)
  below x [] all = tt
  below x (e ∷ es) all = both _ _ (subst (λ r. T (is_lt r)) (sym all.0) tt) (below x es all.1)

  in_order : (es : List (ℕ × X)) → IsStrictlySortedBy nat_cmp (keys_of es) → T (fin.is_sorted nat_cmp es)
  unfolding IsStrictlySortedBy
  in_order [] sorted = tt
  in_order (e ∷ es) sorted = both _ _ (below e.0 es sorted.0) (in_order es sorted.1)

  -- the entries of the map of sorted entries
  pub entries-sorted : (es : List (ℕ × X)) → IsStrictlySortedBy nat_cmp (keys_of es) → fin.entries (fin.from_entries {R = nat_cmp} es) ≡ es
  entries-sorted es sorted =
      let rises = in_order es sorted in
      ap fin.entries (fin.same_map nat_cmp_total exact_unsigned (fin.from_entries es) (fin.from_sorted es) (λ q. fin.get-from_entries nat_cmp_total es q ∙ sym (fin.get-from_sorted nat_cmp es q rises)))
      ∙ fin.entries-from_sorted nat_cmp es rises

  pub keys-sorted : (es : List (ℕ × X)) → IsStrictlySortedBy nat_cmp (keys_of es) → fin.keys (fin.from_entries {R = nat_cmp} es) ≡ map (λ e. e.0) es
  keys-sorted es sorted = ap (map (λ e. e.0)) (entries-sorted es sorted)

  pub values-sorted : (es : List (ℕ × X)) → IsStrictlySortedBy nat_cmp (keys_of es) → fin.values (fin.from_entries {R = nat_cmp} es) ≡ map (λ e. e.1) es
  values-sorted es sorted = ap (map (λ e. e.1)) (entries-sorted es sorted)

pub neither : (x y f c : Bool) → x ≡ f → f ≡ false → y ≡ c → not c ≡ (not x && not y)
neither x y f c a b d = sym (ap (λ z. not z && not y) (a ∙ b) ∙ ap not d)

pub held : (x y f : Bool) → x ≡ f → f ≡ true → false ≡ (not x && not y)
held x y f a b = sym (ap (λ z. not z && not y) (a ∙ b))

pub if_ok : {A E : Type 0} {P Q : A → Type 0} (r : Result A E) → ((v : A) → P v → Q v) → IfOk r P → IfOk r Q
if_ok (Ok v) f p = f v p
if_ok (Err e) f p = p
