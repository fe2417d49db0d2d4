-- The lists of exits as a map from exits to places, and what a change of where they lead makes of it.
use Rattle.std.proofs.Common.{◌≡◌, ℕ, zero, suc, ◌+◌, ◌*◌, ◌-◌, ◌<◌, ◌≤◌, ◌==◌, ◌||◌, Bool, true, false, cond, List, [], ◌∷◌, ◌++◌, length, Option, Some, None, Ok, Err, refl, sym, ◌∙◌, ap, arith, inl, inr, lt-ltb, le-ltb}
use Rattle.std.specs.Prelude.{not, map, is_some, replicate, Result, IfOk}
use mathlib.Core.Logic.{dite}
use native.Mathlib.Decide.{ℕ_discrete}
use Rattle.std.specs.Ordering.{nat_cmp, is_eq, eq_by_cmp}
use Rattle.std.specs.declared.cmp.Ordering.TheVariants.{Less, Equal, Greater}
use Rattle.std.specs.Cmp.{nat_cmp_total}
use Rattle.std.proofs.lemmas.Bool.{cases_lt, ne_eqb, eq-eqb}
use Rattle.std.proofs.lemmas.Bool.Decides.{nat_tests}
use Rattle.std.proofs.lemmas.Map.Lookups.{exact_unsigned}
use Rattle.std.specs.FinMap.{get, insert, remove, retain_keys, len, empty, find, get-from_entries, get-insert, get-remove, get-empty, get-retain_keys, same_map, len-remove, empty_of_len}
use Rattle.in_lists.specs.Lists.{Incoming, all_empty}
use Rattle.exit_links.specs.Linked.{Pairs, leads_to, exit_number}
use Rattle.exit_links.specs.Leads.{has, first_with, leads, pairs_from, pairs_of}
use Rattle.exit_links.proofs.Leading.{not_cut}

eq_comm : (a b : ℕ) → (a == b) ≡ (b == a)
eq_comm a b = grind (arith, nat_tests)

not_less : (b : Bool) → is_eq (cond b Equal Greater) ≡ b
not_less true = refl
not_less false = refl

-- the test of a key
pub key-test : (q k : ℕ) → eq_by_cmp nat_cmp q k ≡ (q == k)
key-test q k = elim (cases_lt q k) [
  | inl less ↦ ap (λ b. is_eq (cond b Less (cond (q == k) Equal Greater))) (lt-ltb q k less) ∙ sym (ne_eqb q k (λ e. absurd (omega arith)))
  | inr more ↦ ap (λ b. is_eq (cond b Less (cond (q == k) Equal Greater))) (le-ltb q k more) ∙ not_less (q == k)
]

or_cond : {A : Type 0} (a b : Bool) (x y : A) → cond a x (cond b x y) ≡ cond (a || b) x y
or_cond true b x y = refl
or_cond false b x y = refl

-- the pairs of one list, and those behind them
find-map : (x h : ℕ) (l : List ℕ) (es : List (ℕ × ℕ)) → find nat_cmp x (map (λ y. (y, h)) l ++ es) ≡ cond (has l x) (Some h) (find nat_cmp x es)
find-map x h [] es = refl
find-map x h (y ∷ l) es =
    ap (λ b. cond b (Some h) (find nat_cmp x (map (λ z. (z, h)) l ++ es))) (key-test x y ∙ eq_comm x y)
    ∙ ap (cond (y == x) (Some h)) (find-map x h l es) ∙ or_cond (y == x) (has l x) (Some h) (find nat_cmp x es)

find-pairs : (x h : ℕ) (ls : List (List ℕ)) → find nat_cmp x (pairs_from h ls) ≡ first_with h ls x
find-pairs x h [] = refl
find-pairs x h (l ∷ ls) = find-map x h l (pairs_from (h + 1) ls) ∙ ap (cond (has l x) (Some h)) (find-pairs x (h + 1) ls)

pub get-pairs : (v : Incoming) (x : ℕ) → get (pairs_of v) x ≡ leads v x
get-pairs v x = get-from_entries nat_cmp_total (pairs_from 0 v.lists) x ∙ find-pairs x 0 v.lists

same_pairs : (m n : Pairs) → ((x : ℕ) → get m x ≡ get n x) → m ≡ n
same_pairs m n h = same_map nat_cmp_total exact_unsigned m n h

-- an exit leads on, or no more
pub pairs-put : (v w : Incoming) (k to : ℕ) → ((x : ℕ) → leads w x ≡ cond (x == k) (Some to) (leads v x)) → pairs_of w ≡ insert (pairs_of v) k to
pairs-put v w k to h = same_pairs (pairs_of w) (insert (pairs_of v) k to) (λ q.
    get-pairs w q ∙ h q ∙ sym (get-insert nat_cmp_total (pairs_of v) k to q ∙ (λ i. cond (key-test q k i) (Some to) (get-pairs v q i))))

pub pairs-cut : (v w : Incoming) (k : ℕ) → ((x : ℕ) → leads w x ≡ cond (x == k) None (leads v x)) → pairs_of w ≡ remove (pairs_of v) k
pairs-cut v w k h = same_pairs (pairs_of w) (remove (pairs_of v) k) (λ q.
    get-pairs w q ∙ h q ∙ sym (get-remove nat_cmp_total (pairs_of v) k q ∙ (λ i. cond (key-test q k i) None (get-pairs v q i))))

pub pairs-none : (w : Incoming) → ((x : ℕ) → leads w x ≡ None) → pairs_of w ≡ empty
pairs-none w h = same_pairs (pairs_of w) empty (λ q. get-pairs w q ∙ h q ∙ sym (get-empty nat_cmp q))

pub pairs-same : (v w : Incoming) → ((x : ℕ) → leads w x ≡ leads v x) → pairs_of w ≡ pairs_of v
pairs-same v w h = same_pairs (pairs_of w) (pairs_of v) (λ q. get-pairs w q ∙ h q ∙ sym (get-pairs v q))

-- no exit is removed that is not there
pub remove_none : (m : Pairs) (k : ℕ) → get m k ≡ None → remove m k ≡ m
remove_none m k none = same_pairs (remove m k) m (λ q. get-remove nat_cmp_total m k q ∙ ap (λ b. cond b None (get m q)) (key-test q k) ∙ dite (ℕ_discrete q k)
    (λ e. kept (q == k) (get m q) (ap (get m) e ∙ none))
    (λ n. ap (λ b. cond b None (get m q)) (ne_eqb q k n)))
  where
    kept : (b : Bool) (o : Option ℕ) → o ≡ None → cond b None o ≡ o
    kept true o e = sym e
    kept false o e = refl

-- those that led to a place lead nowhere
pub pairs-into : (v w : Incoming) (to : ℕ) → ((x : ℕ) → leads_to (leads v x) to ≡ false → leads w x ≡ leads v x) → ((x : ℕ) → leads_to (leads v x) to ≡ true → leads w x ≡ None)
    → pairs_of w ≡ retain_keys (pairs_of v) (λ x. not (leads_to (get (pairs_of v) x) to))
pairs-into v w to others gone =
    let m = pairs_of v in
    let stays : ℕ → Bool = λ x. not (leads_to (get m x) to) in
    same_pairs (pairs_of w) (retain_keys m stays) (λ q.
    get-pairs w q ∙ by q (leads_to (leads v q) to) refl ∙ sym (get-retain_keys m stays q (λ x e. ap stays (sym (exact_unsigned q x e))) ∙ (λ i. cond (not (leads_to (get-pairs v q i) to)) (get-pairs v q i) None)))
  where
    by : (q : ℕ) (b : Bool) → leads_to (leads v q) to ≡ b → leads w q ≡ cond (not (leads_to (leads v q) to)) (leads v q) None
    by q true is = gone q is ∙ sym (ap (λ b. cond (not b) (leads v q) None) is)
    by q false is = others q is ∙ sym (ap (λ b. cond (not b) (leads v q) None) is)

-- to a place past the last one none leads
pub retain_all : (m : Pairs) (to : ℕ) → ((x q : ℕ) → get m x ≡ Some q → q < to) → retain_keys m (λ x. not (leads_to (get m x) to)) ≡ m
retain_all m to below =
    let stays : ℕ → Bool = λ x. not (leads_to (get m x) to) in
    same_pairs (retain_keys m stays) m (λ q. get-retain_keys m stays q (λ x e. ap stays (sym (exact_unsigned q x e))) ∙ by q (get m q) refl)
  where
    by : (q : ℕ) (o : Option ℕ) → get m q ≡ o → cond (not (leads_to (get m q) to)) (get m q) None ≡ get m q
    by q None is = (λ i. cond (not (leads_to (is i) to)) (is i) None) ∙ sym is
    by q (Some p) is = (λ i. cond (not (leads_to (is i) to)) (is i) None) ∙ ap (λ b. cond (not b) (Some p) None) (ne_eqb p to (λ e. let less = below q p is in absurd (omega arith))) ∙ sym is

-- one pair less
pub len-cut : (m : Pairs) (k to : ℕ) → get m k ≡ Some to → len (remove m k) + 1 ≡ len m
len-cut m k to there = dite (ℕ_discrete (len m) 0)
    (λ z. let clash : None ≡ Some to = sym (get-empty nat_cmp k) ∙ (ap (λ n. get n k) (sym (empty_of_len m z)) ∙ there) in cc)
    (λ n. let one : len (remove m k) ≡ len m - 1 = len-remove nat_cmp_total m k ∙ ap (λ b. cond b (len m - 1) (len m)) (ap is_some there) in omega (arith, one, n))

-- empty lists
none_first : (n h x : ℕ) → first_with h (replicate n []) x ≡ None
none_first zero h x = refl
none_first (suc n) h x = none_first n (h + 1) x

pub none-led : (v : Incoming) (exits heads : ℕ) → v ≡ all_empty exits heads → (x : ℕ) → leads v x ≡ None
none-led v exits heads is x = ap (λ u. leads u x) is ∙ none_first heads 0 x

pub ok_led : {E : Type 0} (r : Result Incoming E) (exits heads : ℕ) → IfOk r (λ v. v ≡ all_empty exits heads) → IfOk r (λ v. (x : ℕ) → leads v x ≡ None)
ok_led (Ok v) exits heads is = none-led v exits heads is
ok_led (Err e) exits heads is = tt

-- whether a place is led to
pub leads_to-true : (o : Option ℕ) (to : ℕ) → leads_to o to ≡ true → o ≡ Some to
leads_to-true None to is = cc
leads_to-true (Some q) to is = ap Some (grind (arith, nat_tests))

pub led-true : (o : Option ℕ) (to : ℕ) → o ≡ Some to → leads_to o to ≡ true
led-true o to is = ap (λ p. leads_to p to) is ∙ eq-eqb to to refl

-- an exit of a place past the last one leads nowhere
pub past_place : (v : Incoming) (places place exit : ℕ) → ((x q : ℕ) → leads v x ≡ Some q → (x < v.exits) × (q < length v.lists)) → v.exits ≡ 2 * places → places ≤ place → get (pairs_of v) (2 * place + exit) ≡ None
past_place v places place exit range few past = get-pairs v (2 * place + exit) ∙ not_cut (leads v (2 * place + exit)) (λ q led. let r = range (2 * place + exit) q led in absurd (omega (arith, r.0, few)))

-- of the exits of a place, the first and the second
pub cut_two : (v w u : Incoming) (place : ℕ) → ((x : ℕ) → leads w x ≡ cond (x == 2 * place) None (leads v x)) → ((x : ℕ) → leads u x ≡ cond (x == 2 * place + 1) None (leads w x))
    → pairs_of u ≡ remove (remove (pairs_of v) (exit_number place 0)) (exit_number place 1)
cut_two v w u place first second =
    let zeroth : 2 * place ≡ exit_number place 0 = omega arith in
    pairs-cut w u (2 * place + 1) second ∙ ap (λ m. remove m (2 * place + 1)) (pairs-cut v w (2 * place) first ∙ ap (remove (pairs_of v)) zeroth)

pub no_two : (m : Pairs) (place : ℕ) → get m (exit_number place 0) ≡ None → get m (exit_number place 1) ≡ None → m ≡ remove (remove m (exit_number place 0)) (exit_number place 1)
no_two m place first second = sym (ap (λ n. remove n (exit_number place 1)) (remove_none m (exit_number place 0) first) ∙ remove_none m (exit_number place 1) second)

-- ---- the exits that lead to a place, one after the other

-- the lists now, when some of the exits that led to the place lead nowhere, and the number of those still linked
pub record IsEmptied (old now : Incoming) (to : ℕ) : Type 0 where
  pub others : (x : ℕ) → leads_to (leads old x) to ≡ false → leads now x ≡ leads old x
  pub less : (x q : ℕ) → leads now x ≡ Some q → leads old x ≡ Some q

pub empties-first : (old : Incoming) (to : ℕ) → IsEmptied old old to
empties-first old to = record { others = λ x out. refl; less = λ x q led. led }

pub empties-next : (old now new : Incoming) (to k : ℕ) → IsEmptied old now to → leads now k ≡ Some to → ((x : ℕ) → leads new x ≡ cond (x == k) None (leads now x)) → IsEmptied old new to
empties-next old now new to k before led cut = record {
  others = λ x out. dite (ℕ_discrete x k)
      (λ e. let met : leads_to (leads old x) to ≡ true = led-true (leads old x) to (before.less x to (ap (leads now) e ∙ led)) in let clash : true ≡ false = sym met ∙ out in cc)
      (λ n. cut x ∙ ap (λ b. cond b None (leads now x)) (ne_eqb x k n) ∙ before.others x out);
  less = λ x q there. dite (ℕ_discrete x k)
      (λ e. let clash : None ≡ Some q = sym (cut x ∙ ap (λ b. cond b None (leads now x)) (eq-eqb x k e)) ∙ there in cc)
      (λ n. before.less x q (sym (cut x ∙ ap (λ b. cond b None (leads now x)) (ne_eqb x k n)) ∙ there));
}

pub empties-last : (old now new : Incoming) (to : ℕ) → IsEmptied old now to → ((x : ℕ) → leads now x ≡ Some to → ⊥) → ((x : ℕ) → leads new x ≡ leads now x)
    → ((x : ℕ) → leads_to (leads old x) to ≡ false → leads new x ≡ leads old x) × ((x : ℕ) → leads_to (leads old x) to ≡ true → leads new x ≡ None)
empties-last old now new to before none kept = (
  λ x out. kept x ∙ before.others x out,
  λ x met. kept x ∙ not_cut (leads now x) (λ q there.
      let was : Some q ≡ Some to = sym (before.less x q there) ∙ leads_to-true (leads old x) to met in none x (there ∙ was)),
)

pub len-taken : (now new : Incoming) (k to : ℕ) → leads now k ≡ Some to → ((x : ℕ) → leads new x ≡ cond (x == k) None (leads now x)) → len (pairs_of new) + 1 ≡ len (pairs_of now)
len-taken now new k to led cut = ap (λ m. len m + 1) (pairs-cut now new k cut) ∙ len-cut (pairs_of now) k to (get-pairs now k ∙ led)
