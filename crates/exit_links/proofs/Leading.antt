-- An exit leads to the place in whose list it is.
use Rattle.std.proofs.Common.{◌≡◌, ◌≢◌, ℕ, zero, suc, ◌+◌, ◌<◌, ◌≤◌, ◌==◌, ◌||◌, ◌⊎◌, inl, inr, Bool, true, false, cond, List, [], ◌∷◌, length, get_or, Option, Some, None, refl, sym, ◌∙◌, ap, subst, arith}
use Rattle.std.specs.Prelude.{◌↔◌, nat_lt, drop, slice_get, IfSome, IfNone}
use Rattle.std.proofs.lemmas.Bool.{cases_lt}
use Rattle.std.proofs.lemmas.Bool.Decides.{nat_tests}
use Rattle.in_lists.specs.Lists.{Incoming, IsIn, IsKept, list_of, with_list}
use Rattle.in_lists.proofs.Laws.{in_put, in_rest}
use Rattle.std.proofs.lemmas.List.{get_or_past}
use Rattle.in_lists.specs.Linked.{In}
use Rattle.in_lists.proofs.Keeping.{Contains-from_In, In-from_Contains}
use Rattle.exit_links.specs.Leads.{has, first_with, leads}

eq_true : (a b : ℕ) → (a == b) ≡ true → a ≡ b
eq_true a b e = grind (arith, nat_tests)

eq_same : (a b : ℕ) → a ≡ b → (a == b) ≡ true
eq_same a b e = grind (arith, nat_tests)

has_by : (l : List ℕ) (x y : ℕ) → (has l x ≡ true → In x l) → (b : Bool) → (y == x) ≡ b → (b || has l x) ≡ true → In x (y ∷ l)
has_by l x y rest true is h = inl (sym (eq_true y x is))
has_by l x y rest false is h = inr (rest h)

has-In : (l : List ℕ) (x : ℕ) → has l x ≡ true → In x l
has-In [] x e = absurd (cc)
has-In (y ∷ l) x e = has_by l x y (has-In l x) (y == x) refl e

or_right : (a b : Bool) → b ≡ true → (a || b) ≡ true
or_right true b e = refl
or_right false b e = e

In-has : (l : List ℕ) (x : ℕ) → In x l → has l x ≡ true
In-has [] x i = absurd i
In-has (y ∷ l) x (inl same) = ap (λ b. b || has l x) (eq_same y x (sym same))
In-has (y ∷ l) x (inr later) = or_right (y == x) (has l x) (In-has l x later)

-- the first that has it is one that has it
found_by : (l : List ℕ) (ls : List (List ℕ)) (x h q : ℕ) → (first_with (h + 1) ls x ≡ Some q → (n : ℕ) × (q ≡ h + 1 + n) × In x (get_or ls n [])) →
    (b : Bool) → has l x ≡ b → cond b (Some h) (first_with (h + 1) ls x) ≡ Some q → (n : ℕ) × (q ≡ h + n) × In x (get_or (l ∷ ls) n [])
found_by l ls x h q rest true is e = (0, (let same : h ≡ q = cc in omega arith), has-In l x is)
found_by l ls x h q rest false is e = let r = rest e in (suc r.0, (let same = r.1 in omega arith), r.2)

found : (ls : List (List ℕ)) (x h q : ℕ) → first_with h ls x ≡ Some q → (n : ℕ) × (q ≡ h + n) × In x (get_or ls n [])
found [] x h q e = absurd (cc)
found (l ∷ ls) x h q e = found_by l ls x h q (found ls x (h + 1) q) (has l x) refl e

-- where one has it, one is found
some_by : (l : List ℕ) (ls : List (List ℕ)) (x h : ℕ) (b : Bool) → has l x ≡ b → ((q : ℕ) × (first_with (h + 1) ls x ≡ Some q)) ⊎ (b ≡ true) → (q : ℕ) × (cond b (Some h) (first_with (h + 1) ls x) ≡ Some q)
some_by l ls x h true is either = (h, refl)
some_by l ls x h false is (inl later) = later
some_by l ls x h false is (inr here) = absurd (cc)

some : (ls : List (List ℕ)) (x h n : ℕ) → In x (get_or ls n []) → (q : ℕ) × (first_with h ls x ≡ Some q)
some [] x h zero i = absurd i
some [] x h (suc n) i = absurd i
some (l ∷ ls) x h zero i = some_by l ls x h (has l x) refl (inr (In-has l x i))
some (l ∷ ls) x h (suc n) i = some_by l ls x h (has l x) refl (inl (some ls x (h + 1) n i))

module _ (v : Incoming) (kept : IsKept v) where
  pub in-led : (x h : ℕ) → leads v x ≡ Some h → IsIn v x h
  in-led x h e =
      let f = found v.lists x 0 h e in
      let same : h ≡ f.0 = let g = f.1 in omega arith in
      subst (IsIn v x) (sym same) (Contains-from_In x (list_of v f.0) f.2)

  pub led-in : (x h : ℕ) → IsIn v x h → leads v x ≡ Some h
  led-in x h i =
      let s = some v.lists x 0 h (In-from_Contains x (list_of v h) i) in
      s.1 ∙ ap Some (kept.one_list x s.0 h (in-led x s.0 s.1) i)

-- an option is known by what it is
pub same_option : (o p : Option ℕ) → ((h : ℕ) → (o ≡ Some h) ↔ (p ≡ Some h)) → o ≡ p
same_option None None same = refl
same_option None (Some h) same = (same h).1 refl
same_option (Some h) p same = sym ((same h).0 refl)

-- what is led to is led to in the lists
pub leads-is : (v : Incoming) (kept : IsKept v) (x : ℕ) (o : Option ℕ) → ((h : ℕ) → (o ≡ Some h) ↔ IsIn v x h) → o ≡ leads v x
leads-is v kept x o is = same_option o (leads v x) (λ h. (λ e. led-in v kept x h ((is h).0 e), λ e. (is h).1 (in-led v kept x h e)))

-- past the last exit none leads on
pub past-none : (v : Incoming) (kept : IsKept v) (x : ℕ) → v.exits ≤ x → None ≡ leads v x
past-none v kept x past = leads-is v kept x None (λ h. (λ e. absurd (let f : None ≡ Some h = e in cc), λ i. absurd (let less = kept.in_range x h i in omega arith)))

pub none-in : (v : Incoming) (kept : IsKept v) (x : ℕ) → leads v x ≡ None → (h : ℕ) → IsIn v x h → ⊥
none-in v kept x none h i = let e : None ≡ Some h = sym none ∙ led-in v kept x h i in cc

-- one exit more
pub one-more : (v w : Incoming) (kept : IsKept v) (still : IsKept w) (k to : ℕ) → leads v k ≡ None → to < length v.lists → w ≡ with_list v to (k ∷ list_of v to) →
    (x : ℕ) → leads w x ≡ cond (x == k) (Some to) (leads v x)
one-more v w kept still k to none below is x = by (x == k) refl
  where
    put : (h : ℕ) → IsIn w x h ↔ (((x ≡ k) × (h ≡ to)) ⊎ IsIn v x h)
    put h = subst (λ u. IsIn u x h ↔ (((x ≡ k) × (h ≡ to)) ⊎ IsIn v x h)) (sym is) (in_put v k to x h below)

    by : (b : Bool) → (x == k) ≡ b → leads w x ≡ cond b (Some to) (leads v x)
    by true same = led-in w still x to ((put to).1 (inl (eq_true x k same, refl)))
    by false apart = same_option (leads w x) (leads v x) (λ h. (
      λ e. elim ((put h).0 (in-led w still x h e)) [
        | inl here ↦ absurd (let this = eq_same x k here.0 in let c : true ≡ false = sym this ∙ apart in cc)
        | inr before ↦ led-in v kept x h before
      ],
      λ e. led-in w still x h ((put h).1 (inr (in-led v kept x h e))),
    ))

-- ---- an exit that is cut, and hung anew

pub not_cut : (o : Option ℕ) → ((h : ℕ) → o ≡ Some h → ⊥) → o ≡ None
not_cut None f = refl
not_cut (Some h) f = absurd (f h refl)

pub one-cut : (v w : Incoming) (kept : IsKept v) (still : IsKept w) (k : ℕ) → ((x h : ℕ) → IsIn w x h ↔ (IsIn v x h × (x ≢ k))) → (x : ℕ) → leads w x ≡ cond (x == k) None (leads v x)
one-cut v w kept still k is x = by (x == k) refl
  where
    by : (b : Bool) → (x == k) ≡ b → leads w x ≡ cond b None (leads v x)
    by true same = not_cut (leads w x) (λ h e. ((is x h).0 (in-led w still x h e)).1 (eq_true x k same))
    by false apart = same_option (leads w x) (leads v x) (λ h. (
      λ e. led-in v kept x h ((is x h).0 (in-led w still x h e)).0,
      λ e. led-in w still x h ((is x h).1 (in-led v kept x h e, λ same. (let c : true ≡ false = sym (eq_same x k same) ∙ apart in cc))),
    ))

-- ---- the same exits in a new block

-- only a head that there is has a list
pub head-within : (v : Incoming) (x h : ℕ) → IsIn v x h → h < length v.lists
head-within v x h i = by (cases_lt h (length v.lists))
  where
    by : (h < length v.lists) ⊎ (length v.lists ≤ h) → h < length v.lists
    by (inl less) = less
    by (inr past) = absurd (subst (In x) (get_or_past v.lists h [] past) (In-from_Contains x (list_of v h) i))

lt_zero : (x : ℕ) → nat_lt x 0 ≡ false
lt_zero x = grind (arith, nat_tests)

lt_same : (x : ℕ) → nat_lt x x ≡ false
lt_same x = grind (arith, nat_tests)

lt_next : (x e : ℕ) → x ≡ e → nat_lt x (e + 1) ≡ true
lt_next x e same = grind (arith, nat_tests)

lt_other : (x e : ℕ) → (x ≡ e → ⊥) → nat_lt x (e + 1) ≡ nat_lt x e
lt_other x e other = grind (arith, nat_tests)

lt_by : (x n : ℕ) → x < n → nat_lt x n ≡ true
lt_by x n less = grind (arith, nat_tests)

lt_past : (x n : ℕ) → n ≤ x → nat_lt x n ≡ false
lt_past x n more = grind (arith, nat_tests)

-- none of the exits below 0 was moved
pub below-none : (v w : Incoming) → ((x : ℕ) → leads w x ≡ None) → (x : ℕ) → leads w x ≡ cond (nat_lt x 0) (leads v x) None
below-none v w none x = none x ∙ sym (ap (λ b. cond b (leads v x) None) (lt_zero x))

next_by : (f : ℕ → Option ℕ) (e x : ℕ) (o : Option ℕ) → f e ≡ o → (b : Bool) → (x == e) ≡ b → cond b o (cond (nat_lt x e) (f x) None) ≡ cond (nat_lt x (e + 1)) (f x) None
next_by f e x o at true is = let same = eq_true x e is in sym (ap (λ b. cond b (f x) None) (lt_next x e same) ∙ ap f same ∙ at)
next_by f e x o at false is = sym (ap (λ b. cond b (f x) None) (lt_other x e (λ same. let c : true ≡ false = sym (eq_same x e same) ∙ is in cc)))

pub below-more : (v w : Incoming) (e : ℕ) (o : Option ℕ) → leads v e ≡ o → (l : ℕ → Option ℕ) → ((x : ℕ) → leads w x ≡ cond (nat_lt x e) (leads v x) None) → ((x : ℕ) → l x ≡ cond (x == e) o (leads w x)) →
    (x : ℕ) → l x ≡ cond (nat_lt x (e + 1)) (leads v x) None
below-more v w e o at l before is x = is x ∙ ap (cond (x == e) o) (before x) ∙ next_by (leads v) e x o at (x == e) refl

-- an exit that is in no list is left out
same_none : (f : ℕ → Option ℕ) (e x : ℕ) → f e ≡ None → (b : Bool) → (x == e) ≡ b → f x ≡ cond b None (f x)
same_none f e x none true is = ap f (eq_true x e is) ∙ none
same_none f e x none false is = refl

pub below-same : (v w : Incoming) (e : ℕ) → leads v e ≡ None → ((x : ℕ) → leads w x ≡ cond (nat_lt x e) (leads v x) None) → (x : ℕ) → leads w x ≡ cond (nat_lt x (e + 1)) (leads v x) None
below-same v w e none before = below-more v w e None none (leads w) before (λ x. same_none (leads w) e x (before e ∙ ap (λ b. cond b (leads v e) None) (lt_same e)) (x == e) refl)

pub free-there : (v w : Incoming) (e : ℕ) → ((x : ℕ) → leads w x ≡ cond (nat_lt x e) (leads v x) None) → leads w e ≡ None
free-there v w e before = before e ∙ ap (λ b. cond b (leads v e) None) (lt_same e)

-- none from there on leads anywhere: all were moved
pub below-all : (v w : Incoming) (n : ℕ) → ((x : ℕ) → n ≤ x → leads v x ≡ None) → ((x : ℕ) → leads w x ≡ cond (nat_lt x n) (leads v x) None) → (x : ℕ) → leads w x ≡ leads v x
below-all v w n past before x = before x ∙ by (cases_lt x n)
  where
    by : (x < n) ⊎ (n ≤ x) → cond (nat_lt x n) (leads v x) None ≡ leads v x
    by (inl less) = ap (λ b. cond b (leads v x) None) (lt_by x n less)
    by (inr more) = ap (λ b. cond b (leads v x) None) (lt_past x n more) ∙ sym (past x more)

-- one taken from the front of a list
module _ (v w : Incoming) (to : ℕ) (kept : IsKept v) (still : IsKept w) (below : to < length v.lists) (is : w ≡ with_list v to (drop 1 (list_of v to))) where
  at_front : (e : ℕ) → Some e ≡ slice_get (list_of v to) 0 → (rest : List ℕ) × (list_of v to ≡ e ∷ rest)
  at_front e first = by (list_of v to) first
    where
      by : (l : List ℕ) → Some e ≡ slice_get l 0 → (rest : List ℕ) × (l ≡ e ∷ rest)
      by [] f = cc
      by (y ∷ ys) f = let same : e ≡ y = cc in (ys, ap (λ z. z ∷ ys) (sym same))

  not_empty : (x : ℕ) (l : List ℕ) → None ≡ slice_get l 0 → In x l → ⊥
  not_empty x [] f i = i
  not_empty x (y ∷ ys) f i = cc

  pub taken-none : (o : Option ℕ) → o ≡ slice_get (list_of v to) 0 → IfNone o ((x : ℕ) → leads v x ≡ Some to → ⊥)
  taken-none None first = λ x led. not_empty x (list_of v to) first (In-from_Contains x (list_of v to) (in-led v kept x to led))
  taken-none (Some e) first = tt

  pub taken-led : (o : Option ℕ) → o ≡ slice_get (list_of v to) 0 → IfSome o (λ e. leads v e ≡ Some to)
  taken-led None first = tt
  taken-led (Some e) first = let f = at_front e first in led-in v kept e to (Contains-from_In e (list_of v to) (subst (In e) (sym f.1) (inl refl)))

  pub taken-cut : (o : Option ℕ) → o ≡ slice_get (list_of v to) 0 → IfSome o (λ e. (x : ℕ) → leads w x ≡ cond (x == e) None (leads v x))
  taken-cut None first = tt
  taken-cut (Some e) first =
      let f = at_front e first in
      one-cut v w kept still e (λ x h. subst (λ u. IsIn u x h ↔ (IsIn v x h × (x ≢ e))) (sym is) (in_rest v to e x h f.0 below kept f.1))
