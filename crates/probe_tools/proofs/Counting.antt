-- More events of a key.
use Rattle.std.proofs.Common.{◌≡◌, ◌≤◌, ℕ, zero, suc, ◌+◌, ◌==◌, Bool, true, false, cond, List, [], ◌∷◌, ◌++◌, Option, Some, is_some, count_by, nat_eq, nat_lt, unwrap_or, IsSome, Less, Equal, Greater, refl, sym, ◌∙◌, ap, arith, add-one, eq-eqb}
use Rattle.std.proofs.lemmas.Bool.{ne_eqb, ltb-true, eqb-true}
use Rattle.std.proofs.lemmas.Grind.{fold-append}
use Rattle.std.specs.Cmp.{nat_cmp_total, eq_by_cmp_equiv}
use Rattle.std.specs.Ordering.{nat_cmp, eq_by_cmp, is_eq}
use Rattle.std.specs.FinMap as fin
use Rattle.probe_tools.specs.declared.event.Event.{Event}
use Rattle.probe_tools.specs.Rows.{Counts, AreRows, count_at, with_more, tally, if_any, key_of}

-- ---- the two tests of a key
by_cases : (lt eq : Bool) → (lt ≡ true → eq ≡ false) → is_eq (cond lt Less (cond eq Equal Greater)) ≡ eq
by_cases true eq apart = sym (apart refl)
by_cases false true apart = refl
by_cases false false apart = refl

pub same_test : (x y : ℕ) → eq_by_cmp nat_cmp x y ≡ nat_eq x y
same_test x y = by_cases (nat_lt x y) (nat_eq x y) (λ h. ne_eqb x y (let lt = ltb-true x y h in λ same. omega arith))

pub turned : (k q : ℕ) → nat_eq k q ≡ eq_by_cmp nat_cmp q k
turned k q = sym (same_test k q) ∙ (eq_by_cmp_equiv nat_cmp_total).symm k q

-- ---- events
count_by-last : (p : Event → Bool) (events : List Event) (e : Event) → count_by p (events ++ e ∷ []) ≡ count_by p events + cond (p e) 1 0
count_by-last p events e = fold-append _ _ events (e ∷ [])

unwrap_if_any : (n : ℕ) → unwrap_or (if_any n) 0 ≡ n
unwrap_if_any zero = refl
unwrap_if_any (suc n) = refl

if_more : (b : Bool) (n m : ℕ) → m ≡ n + cond b 1 0 → if_any m ≡ cond b (Some (n + 1)) (if_any n)
if_more true n m is = ap if_any (is ∙ add-one n) ∙ ap Some (sym (add-one n))
if_more false n m is = ap if_any (is ∙ omega arith)

tally_more : (events : List Event) (e : Event) (q : ℕ) → tally (events ++ e ∷ []) q ≡ cond (key_of e == q) (Some (unwrap_or (tally events q) 0 + 1)) (tally events q)
tally_more events e q =
    if_more (key_of e == q) (count_by (λ f. key_of f == q) events) _ (count_by-last (λ f. key_of f == q) events e)
    ∙ ap (λ n. cond (key_of e == q) (Some (n + 1)) (tally events q)) (sym (unwrap_if_any (count_by (λ f. key_of f == q) events)))

here : (b : Bool) (counts : Counts) (n k q : ℕ) → (b ≡ true → k ≡ q) → cond b (Some (count_at counts k + n)) (fin.get counts q) ≡ cond b (Some (count_at counts q + n)) (fin.get counts q)
here true counts n k q same = ap (λ x. Some (count_at counts x + n)) (same refl)
here false counts n k q same = refl

-- what a key has after n more events of another, or of it
pub got_more : (counts : Counts) (k n q : ℕ) → fin.get (with_more k n counts) q ≡ cond (nat_eq k q) (Some (count_at counts q + n)) (fin.get counts q)
got_more counts k n q =
    fin.get-insert nat_cmp_total counts k (count_at counts k + n) q
    ∙ ap (λ b. cond b (Some (count_at counts k + n)) (fin.get counts q)) (sym (turned k q))
    ∙ here (nat_eq k q) counts n k q (eqb-true k q)

at_key : (b : Bool) (o : Option ℕ) (n : ℕ) → unwrap_or (cond b (Some (unwrap_or o 0 + n)) o) 0 ≡ unwrap_or o 0 + cond b n 0
at_key true o n = refl
at_key false o n = omega arith

-- so each count rises by n, or not at all
pub count_more : (counts : Counts) (k n q : ℕ) → count_at (with_more k n counts) q ≡ count_at counts q + cond (nat_eq k q) n 0
count_more counts k n q = ap (λ o. unwrap_or o 0) (got_more counts k n q) ∙ at_key (nat_eq k q) (fin.get counts q) n

cond_most : (b : Bool) (n : ℕ) → cond b n 0 ≤ n
cond_most true n = omega arith
cond_most false n = omega arith

pub count_most : (counts : Counts) (k n q : ℕ) → count_at (with_more k n counts) q ≤ count_at counts q + n
count_most counts k n q = omega (arith, count_more counts k n q, cond_most (nat_eq k q) n)

-- and the key has a row then
pub has_row : (counts : Counts) (k n : ℕ) → IsSome (fin.get (with_more k n counts) k)
has_row counts k n = ap is_some (got_more counts k n k ∙ ap (λ b. cond b (Some (count_at counts k + n)) (fin.get counts k)) (eq-eqb k k refl))

pub rows_more : (events : List Event) (e : Event) (counts : Counts) → AreRows events counts → AreRows (events ++ e ∷ []) (with_more (key_of e) 1 counts)
rows_more events e counts are q =
    got_more counts (key_of e) 1 q
    ∙ ap (λ o. cond (nat_eq (key_of e) q) (Some (unwrap_or o 0 + 1)) o) (are q)
    ∙ sym (tally_more events e q)
