-- A `HashMap` from numbers, seen as a finite map. One lemma for each kind of call.
use Rattle.std.proofs.Common.{◌≡◌, ℕ, List, [], ◌∷◌, Some, None, cond, nat_eq, refl, ap, sym, ◌∙◌}
use Rattle.std.specs.Ordering.{nat_cmp, eq_by_cmp}
use Rattle.std.specs.Cmp.{nat_cmp_total}
use Rattle.std.proofs.lemmas.Map.Lookups.{exact_unsigned}
use Rattle.std.specs.Map.{lookup}
use Rattle.std.specs.FinMap.{get, insert, remove, from_entries, find, get-from_entries, get-insert, get-remove, same_map}
use Rattle.probe_tools.proofs.Counting.{same_test, turned}

module _ {X : Type 0} where
  find_nat : (es : List (ℕ × X)) (q : ℕ) → find nat_cmp q es ≡ lookup (nat_eq q) es
  find_nat [] q = refl
  find_nat (e ∷ es) q = ap (λ b. cond b (Some e.1) (find nat_cmp q es)) (same_test q e.0) ∙ ap (cond (nat_eq q e.0) (Some e.1)) (find_nat es q)

  -- what a look-up finds
  pub get_seen : (es : List (ℕ × X)) (q : ℕ) → get (from_entries {R = nat_cmp} es) q ≡ lookup (nat_eq q) es
  get_seen es q = get-from_entries nat_cmp_total es q ∙ find_nat es q

  -- after an insert
  pub insert_seen : (es fs : List (ℕ × X)) (k : ℕ) (v : X) → ((q : ℕ) → lookup (nat_eq q) fs ≡ cond (nat_eq k q) (Some v) (lookup (nat_eq q) es))
      → from_entries {R = nat_cmp} fs ≡ insert (from_entries es) k v
  insert_seen es fs k v h = same_map nat_cmp_total exact_unsigned _ _ (λ q.
      get_seen fs q ∙ (h q ∙ (ap (λ b. cond b (Some v) (lookup (nat_eq q) es)) (turned k q)
      ∙ sym (get-insert nat_cmp_total (from_entries es) k v q ∙ ap (cond (eq_by_cmp nat_cmp q k) (Some v)) (get_seen es q)))))

  -- after a removal
  pub remove_seen : (es fs : List (ℕ × X)) (k : ℕ) → ((q : ℕ) → lookup (nat_eq q) fs ≡ cond (nat_eq k q) None (lookup (nat_eq q) es))
      → from_entries {R = nat_cmp} fs ≡ remove (from_entries es) k
  remove_seen es fs k h = same_map nat_cmp_total exact_unsigned _ _ (λ q.
      get_seen fs q ∙ (h q ∙ (ap (λ b. cond b None (lookup (nat_eq q) es)) (turned k q)
      ∙ sym (get-remove nat_cmp_total (from_entries es) k q ∙ ap (cond (eq_by_cmp nat_cmp q k) None) (get_seen es q)))))
