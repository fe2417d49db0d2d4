-- Addresses are put into a set, one by one.
use Rattle.std.proofs.Common.{◌≡◌, ℕ, ◌+◌, ◌<◌, ◌||◌, Bool, true, false, cond, List, [], ◌∷◌, length, get_or, refl, sym, ◌∙◌, ap}
use Rattle.std.specs.Prelude.{drop}
use Rattle.std.specs.List.{list_any}
use Rattle.std.specs.Ordering.{nat_cmp, eq_by_cmp}
use Rattle.std.specs.Cmp.{nat_cmp_total}
use Rattle.std.specs.BTreeMap.{is_at}
use Rattle.std.specs.FinMap as fin
use Rattle.std.specs.FinSet as set
use Rattle.std.proofs.lemmas.Option.{slice_get-get_or}
use Rattle.merge_pass.proofs.Lists.{drop-at}
use Rattle.merge_pass.proofs.Maps.{same_test}

abbrev pub add_all : set.FinSet nat_cmp → List ℕ → set.FinSet nat_cmp
add_all s [] = s
add_all s (a ∷ more) = add_all (set.insert s a) more

or_swap : (a b c : Bool) → ((a || b) || c) ≡ (b || (a || c))
or_swap true true c = refl
or_swap true false c = refl
or_swap false b c = refl

has_all : (s : set.FinSet nat_cmp) (more : List ℕ) (q : ℕ) → set.contains (add_all s more) q ≡ (set.contains s q || list_any (eq_by_cmp nat_cmp q) more)
has_all s [] q = or_none (set.contains s q)
  where
    or_none : (b : Bool) → b ≡ (b || false)
    or_none true = refl
    or_none false = refl
has_all s (a ∷ more) q = has_all (set.insert s a) more q ∙ ap (λ b. b || list_any (eq_by_cmp nat_cmp q) more) (set.contains-insert nat_cmp_total s a q) ∙ or_swap (eq_by_cmp nat_cmp q a) (set.contains s q) (list_any (eq_by_cmp nat_cmp q) more)

pub all-added : (s : set.FinSet nat_cmp) (more : List ℕ) → add_all s more ≡ set.union s (set.from_list more)
all-added s more = set.same_set nat_cmp_total fin.nat_cmp-IsAntisymmetric (add_all s more) (set.union s (set.from_list more)) (λ q.
    has_all s more q ∙ sym (set.contains-union nat_cmp_total s (set.from_list more) q ∙ ap (λ b. set.contains s q || b) (set.contains-from_list nat_cmp_total more q)))

cond_or : (b c : Bool) → cond b true c ≡ (b || c)
cond_or true c = refl
cond_or false c = refl

pub one-added : (ks ns : List ℕ) (k : ℕ) → ((q : ℕ) → list_any (is_at (nat_cmp q)) ns ≡ cond (is_at (nat_cmp k) q) true (list_any (is_at (nat_cmp q)) ks)) → set.from_list {R = nat_cmp} ns ≡ set.insert (set.from_list ks) k
one-added ks ns k h = set.same_set nat_cmp_total fin.nat_cmp-IsAntisymmetric (set.from_list ns) (set.insert (set.from_list ks) k) (λ q.
    set.contains-from_list nat_cmp_total ns q ∙ h q ∙ ap (λ b. cond b true (list_any (is_at (nat_cmp q)) ks)) (same_test k q) ∙ cond_or (eq_by_cmp nat_cmp q k) (list_any (is_at (nat_cmp q)) ks)
    ∙ sym (set.contains-insert nat_cmp_total (set.from_list ks) k q ∙ ap (λ b. eq_by_cmp nat_cmp q k || b) (set.contains-from_list nat_cmp_total ks q)))

pub next-added : (s : set.FinSet nat_cmp) (more : List ℕ) (i : ℕ) → i < length more → add_all (set.insert s (get_or more i 0)) (drop (i + 1) more) ≡ add_all s (drop i more)
next-added s more i less = ap (add_all s) (sym (drop-at more i (get_or more i 0) (slice_get-get_or more i 0 less)))
