-- What the calls on links come to, exit by exit.
use Rattle.std.proofs.Common.{◌≡◌, ℕ, ◌+◌, ◌*◌, ◌/◌, ◌==◌, ◌||◌, Bool, true, false, cond, Option, Some, None, refl, sym, ◌∙◌, ap, arith}
use Rattle.std.specs.Prelude.{not}
use Rattle.std.specs.Ordering.{nat_cmp}
use Rattle.std.specs.FinMap as fin
use Rattle.std.proofs.lemmas.Bool.Decides.{nat_tests}
use Rattle.exit_links.specs.Linked.{leads_to}
use Rattle.block_ledger.proofs.Gets.{got-kept}
use Rattle.merge_pass.proofs.Removing.{got-removed}

flip : (b : Bool) (o : Option ℕ) → cond (not b) o None ≡ cond b None o
flip true o = refl
flip false o = refl

gone_by : (a b : Bool) (o : Option ℕ) (p : ℕ) →
    cond (not (leads_to (cond (not b) (cond (not a) o None) None) p)) (cond (not b) (cond (not a) o None) None) None ≡ cond ((a || b) || leads_to o p) None o
gone_by true true o p = refl
gone_by true false o p = refl
gone_by false true o p = refl
gone_by false false o p = flip (leads_to o p) o

either : (x p : ℕ) → ((x == 2 * p + 0) || (x == 2 * p + 1)) ≡ (x / 2 == p)
either x p = grind (arith, nat_tests)

-- without the exits of a place and those that lead to it
pub unlinked : (m : fin.FinMap nat_cmp ℕ) (p x : ℕ) →
    let less = fin.remove (fin.remove m (2 * p + 0)) (2 * p + 1) in
    fin.get (fin.retain_keys less (λ y. not (leads_to (fin.get less y) p))) x ≡ cond ((x / 2 == p) || leads_to (fin.get m x) p) None (fin.get m x)
unlinked m p x =
    let less = fin.remove (fin.remove m (2 * p + 0)) (2 * p + 1) in
    let got : fin.get less x ≡ cond (not (x == 2 * p + 1)) (cond (not (x == 2 * p + 0)) (fin.get m x) None) None =
    got-removed (fin.remove m (2 * p + 0)) (2 * p + 1) x ∙ ap (λ o. cond (not (x == 2 * p + 1)) o None) (got-removed m (2 * p + 0) x) in
    got-kept less (λ y. not (leads_to (fin.get less y) p)) x
    ∙ ap (λ o. cond (not (leads_to o p)) o None) got
    ∙ gone_by (x == 2 * p + 0) (x == 2 * p + 1) (fin.get m x) p
    ∙ ap (λ b. cond (b || leads_to (fin.get m x) p) None (fin.get m x)) (either x p)
