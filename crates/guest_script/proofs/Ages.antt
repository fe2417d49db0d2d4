-- Which generations are held.
use Rattle.std.proofs.Common.{◌≡◌, ℕ, true, false, cond, Some, None, ◌∙◌, ap}
use Rattle.std.specs.Prelude.{unwrap_or}
use Rattle.std.specs.Ordering.{nat_cmp, eq_by_cmp}
use Rattle.std.specs.Cmp.{nat_cmp_total}
use Rattle.std.specs.FinMap as fin
use Rattle.block_ledger.proofs.Gets.{got-insert}
use Rattle.guest_script.specs.Script.{Ages, age_of}

pub age-new : (ages : Ages) (i j a : ℕ) → eq_by_cmp nat_cmp j i ≡ true → age_of (fin.insert ages i a) j ≡ a
age-new ages i j a same = ap (λ o. unwrap_or o 0) (got-insert ages i a j) ∙ ap (λ b. unwrap_or (cond b (Some a) (fin.get ages j)) 0) same

pub age-else : (ages : Ages) (i j a : ℕ) → eq_by_cmp nat_cmp j i ≡ false → age_of (fin.insert ages i a) j ≡ age_of ages j
age-else ages i j a other = ap (λ o. unwrap_or o 0) (got-insert ages i a j) ∙ ap (λ b. unwrap_or (cond b (Some a) (fin.get ages j)) 0) other

pub age-stays : (ages : Ages) (i j : ℕ) → eq_by_cmp nat_cmp j i ≡ false → age_of (fin.remove ages i) j ≡ age_of ages j
age-stays ages i j other = ap (λ o. unwrap_or o 0) (fin.get-remove nat_cmp_total ages i j) ∙ ap (λ b. unwrap_or (cond b None (fin.get ages j)) 0) other
