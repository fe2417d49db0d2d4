-- The segments of a module go.
use Rattle.std.proofs.Common.{◌≡◌, ℕ, ◌+◌, ◌*◌, ◌/◌, ◌==◌, ◌&&◌, Bool, true, false, cond, Option, Some, None, refl, sym, ◌∙◌, ap, arith}
use Rattle.std.specs.Prelude.{not}
use Rattle.std.specs.Ordering.{nat_cmp, eq_by_cmp}
use Rattle.std.specs.Cmp.{nat_cmp_total}
use Rattle.std.specs.FinMap as fin
use Rattle.std.proofs.lemmas.Bool.Decides.{nat_tests}
use Rattle.probe_tools.proofs.Counting.{same_test}
use Rattle.block_ledger.proofs.Gets.{got-kept, got-insert, tied}

pub same-map : {X : Type 0} (m n : fin.FinMap nat_cmp X) → ((q : ℕ) → fin.get m q ≡ fin.get n q) → m ≡ n
same-map m n same = fin.same_map nat_cmp_total fin.nat_cmp-IsAntisymmetric m n same

flip : {A : Type 0} (b : Bool) (o n : A) → cond b n o ≡ cond (not b) o n
flip true o n = refl
flip false o n = refl

pub got-removed : {X : Type 0} (m : fin.FinMap nat_cmp X) (k q : ℕ) → fin.get (fin.remove m k) q ≡ cond (not (q == k)) (fin.get m q) None
got-removed m k q = fin.get-remove nat_cmp_total m k q ∙ ap (λ b. cond b None (fin.get m q)) (same_test q k) ∙ flip (q == k) (fin.get m q) None

four : (q k : ℕ) → (((not (q == 4 * k + 3) && not (q == 4 * k + 2)) && not (q == 4 * k + 1)) && not (q == 4 * k)) ≡ not (q / 4 == k)
four q k = grind (arith, nat_tests)

twice : {A : Type 0} (b c : Bool) (o : Option A) → cond b (cond c o None) None ≡ cond (b && c) o None
twice true c o = refl
twice false c o = refl

pub four-removed : {X : Type 0} (m : fin.FinMap nat_cmp X) (k : ℕ) →
    fin.remove (fin.remove (fin.remove (fin.remove m (4 * k)) (4 * k + 1)) (4 * k + 2)) (4 * k + 3) ≡ fin.retain_keys m (λ i. not (i / 4 == k))
four-removed m k = same-map _ _ (λ q.
    got-removed (fin.remove (fin.remove (fin.remove m (4 * k)) (4 * k + 1)) (4 * k + 2)) (4 * k + 3) q
    ∙ ap (λ o. cond (not (q == 4 * k + 3)) o None) (got-removed (fin.remove (fin.remove m (4 * k)) (4 * k + 1)) (4 * k + 2) q)
    ∙ twice (not (q == 4 * k + 3)) (not (q == 4 * k + 2)) (fin.get (fin.remove (fin.remove m (4 * k)) (4 * k + 1)) q)
    ∙ ap (λ o. cond (not (q == 4 * k + 3) && not (q == 4 * k + 2)) o None) (got-removed (fin.remove m (4 * k)) (4 * k + 1) q)
    ∙ twice (not (q == 4 * k + 3) && not (q == 4 * k + 2)) (not (q == 4 * k + 1)) (fin.get (fin.remove m (4 * k)) q)
    ∙ ap (λ o. cond ((not (q == 4 * k + 3) && not (q == 4 * k + 2)) && not (q == 4 * k + 1)) o None) (got-removed m (4 * k) q)
    ∙ twice ((not (q == 4 * k + 3) && not (q == 4 * k + 2)) && not (q == 4 * k + 1)) (not (q == 4 * k)) (fin.get m q)
    ∙ ap (λ b. cond b (fin.get m q) None) (four q k)
    ∙ sym (got-kept m (λ i. not (i / 4 == k)) q))

same_by : {X : Type 0} (b : Bool) (v : X) (o : Option X) → (b ≡ true → o ≡ Some v) → cond b (Some v) o ≡ o
same_by true v o h = sym (h refl)
same_by false v o h = refl

-- a value that is there already
pub put-same : {X : Type 0} (m : fin.FinMap nat_cmp X) (k : ℕ) (v : X) → fin.get m k ≡ Some v → fin.insert m k v ≡ m
put-same m k v at = same-map _ _ (λ q.
    got-insert m k v q ∙ same_by (eq_by_cmp nat_cmp q k) v (fin.get m q) (λ e. ap (fin.get m) (tied q k e) ∙ at))
