-- What finite maps from numbers answer.
use Rattle.std.proofs.Common.{◌≡◌, ℕ, ◌+◌, Bool, true, false, cond, Option, Some, None, refl, sym, ◌∙◌, ap}
use Rattle.std.specs.Prelude.{if◌then◌else◌}
use Rattle.std.specs.declared.cmp.Ordering.{Ordering}
use Rattle.std.specs.Ordering.{nat_cmp, eq_by_cmp, is_eq}
use Rattle.std.specs.declared.cmp.Ordering.TheVariants.{Less, Equal, Greater}
use Rattle.std.specs.Cmp.{nat_cmp_total}
use Rattle.std.specs.FinMap as fin

module _ {X : Type 0} where
  pub got-empty : (q : ℕ) → fin.get (fin.empty {X = X} {R = nat_cmp}) q ≡ None
  got-empty q = fin.get-empty nat_cmp q

  pub got-insert : (m : fin.FinMap nat_cmp X) (k : ℕ) (v : X) (q : ℕ) → fin.get (fin.insert m k v) q ≡ cond (eq_by_cmp nat_cmp q k) (Some v) (fin.get m q)
  got-insert m k v q = fin.get-insert nat_cmp_total m k v q

  pub got-kept : (m : fin.FinMap nat_cmp X) (p : ℕ → Bool) (q : ℕ) → fin.get (fin.retain_keys m p) q ≡ cond (p q) (fin.get m q) None
  got-kept m p q = fin.get-retain_keys m p q (λ x t. ap p (sym (fin.nat_cmp-IsAntisymmetric q x t)))

  pub len-more : (m : fin.FinMap nat_cmp X) (k : ℕ) (v : X) → fin.len (fin.insert m k v) ≡ cond (fin.contains_key m k) (fin.len m) (fin.len m + 1)
  len-more m k v = fin.len-insert nat_cmp_total m k v

pub len-none : (X : Type 0) → fin.len (fin.empty {X = X} {R = nat_cmp}) ≡ 0
len-none X = fin.len-empty nat_cmp X

equal_of : (o : Ordering) → is_eq o ≡ true → o ≡ Equal
equal_of Less e = absurd (cc)
equal_of Equal e = refl
equal_of Greater e = absurd (cc)

pub tied : (q k : ℕ) → eq_by_cmp nat_cmp q k ≡ true → q ≡ k
tied q k e = fin.nat_cmp-IsAntisymmetric q k (equal_of (nat_cmp q k) e)

none_anyway : {X : Type 0} (b : Bool) → cond {A = Option X} b None None ≡ None
none_anyway true = refl
none_anyway false = refl

module _ {X : Type 0} where
  pub kept-empty : (p : ℕ → Bool) → fin.retain_keys (fin.empty {X = X} {R = nat_cmp}) p ≡ fin.empty
  kept-empty p = fin.same_map nat_cmp_total fin.nat_cmp-IsAntisymmetric (fin.retain_keys fin.empty p) fin.empty (λ q. got-kept fin.empty p q ∙ ap (λ o. cond (p q) o None) (got-empty q) ∙ none_anyway (p q) ∙ sym (got-empty q))

  kept_insert_at : (m : fin.FinMap nat_cmp X) (k : ℕ) (v : X) (p : ℕ → Bool) (b : Bool) → p k ≡ b → (q : ℕ) (c : Bool) → eq_by_cmp nat_cmp q k ≡ c →
      cond (p q) (cond c (Some v) (fin.get m q)) None ≡ fin.get (if b then fin.insert (fin.retain_keys m p) k v else fin.retain_keys m p) q
  kept_insert_at m k v p true is q true e = let at : p q ≡ true = ap p (tied q k e) ∙ is in rw at (sym (got-insert (fin.retain_keys m p) k v q ∙ ap (λ c. cond c (Some v) (fin.get (fin.retain_keys m p) q)) e))
  kept_insert_at m k v p true is q false e = sym (got-insert (fin.retain_keys m p) k v q ∙ ap (λ c. cond c (Some v) (fin.get (fin.retain_keys m p) q)) e ∙ got-kept m p q)
  kept_insert_at m k v p false is q true e = let at : p q ≡ false = ap p (tied q k e) ∙ is in rw at (sym (got-kept m p q ∙ ap (λ c. cond c (fin.get m q) None) at))
  kept_insert_at m k v p false is q false e = sym (got-kept m p q)

  pub kept-insert : (m : fin.FinMap nat_cmp X) (k : ℕ) (v : X) (p : ℕ → Bool) →
      fin.retain_keys (fin.insert m k v) p ≡ (if p k then fin.insert (fin.retain_keys m p) k v else fin.retain_keys m p)
  kept-insert m k v p = fin.same_map nat_cmp_total fin.nat_cmp-IsAntisymmetric (fin.retain_keys (fin.insert m k v) p) (if p k then fin.insert (fin.retain_keys m p) k v else fin.retain_keys m p) (λ q.
      got-kept (fin.insert m k v) p q ∙ ap (λ o. cond (p q) o None) (got-insert m k v q) ∙ kept_insert_at m k v p (p k) refl q (eq_by_cmp nat_cmp q k) refl)

pub ruleset answers = (got-empty, got-insert, got-kept, len-none, len-more, kept-empty, kept-insert)
