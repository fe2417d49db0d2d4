-- The lists are read back from the nodes.
use Rattle.std.proofs.Common.{◌≡◌, ℕ, zero, suc, ◌+◌, ◌-◌, ◌<◌, ◌≤◌, inl, inr, ◌||◌, true, false, cond, eqb, List, [], ◌∷◌, length, get_or, refl, sym, ap, ◌∙◌, arith, ext_get_or}
use Rattle.std.proofs.lemmas.Bool.{eq-eqb, ne_eqb}
use Rattle.std.proofs.lemmas.List.FromFn.{get_or-map-range_with_len, length-map-range_with_len}
use Rattle.std.proofs.lemmas.Map.Steps.{length-le_from_distinct_below}
use Rattle.std.specs.List.{IsDistinct, AllByRecursion, list_any}
use Rattle.in_lists.specs.declared.node.Node.{Node}
use Rattle.in_lists.proofs.Chains.{same_or_not}
use Rattle.in_lists.specs.Linked.{next_of, prev_of, up_to_end, list_from, lists_of, Chain, In, AllDiffer, IsLinked}

all_other : (x : ℕ) (xs : List ℕ) → (In x xs → ⊥) → AllByRecursion (λ y. eqb x y ≡ false) xs
all_other x [] out = tt
all_other x (y ∷ ys) out = (ne_eqb x y (λ same. out (inl same)), all_other x ys (λ h. out (inr h)))

pub IsDistinct-from_AllDiffer : (xs : List ℕ) → AllDiffer xs → IsDistinct eqb xs
unfolding IsDistinct
IsDistinct-from_AllDiffer [] d = tt
IsDistinct-from_AllDiffer (x ∷ xs) d = (all_other x xs d.0, IsDistinct-from_AllDiffer xs d.1)

In-from_any : (e : ℕ) (xs : List ℕ) → list_any (eqb e) xs ≡ true → In e xs
In-from_any e [] h = cc
In-from_any e (x ∷ xs) h = elim (same_or_not e x) [
  | inl here ↦ inl here
  | inr other ↦ inr (In-from_any e xs (sym (ap (λ b. b || list_any (eqb e) xs) (ne_eqb e x other)) ∙ h))
]

pub at_most : (xs : List ℕ) (n : ℕ) → AllDiffer xs → ((e : ℕ) → In e xs → e < n) → length xs ≤ n
at_most xs n d below = length-le_from_distinct_below xs n (IsDistinct-from_AllDiffer xs d) (λ e h. below e (In-from_any e xs h))

-- a chain is followed to its end
followed : (ns : List Node) (prev : ℕ → ℕ) (a z k : ℕ) (xs : List ℕ) → Chain (next_of ns) prev a xs z → (In z xs → ⊥) → length xs ≤ k → up_to_end ns z k (next_of ns a) ≡ xs
followed ns prev a z zero [] c out enough = refl
followed ns prev a z (suc k) [] c out enough = ap (λ b. cond b [] (next_of ns a ∷ up_to_end ns z k (next_of ns (next_of ns a)))) (eq-eqb (next_of ns a) z c.0)
followed ns prev a z zero (x ∷ xs) c out enough = absurd (omega arith)
followed ns prev a z (suc k) (x ∷ xs) c out enough =
    ap (λ i. up_to_end ns z (suc k) i) c.0 ∙ ap (λ b. cond b [] (x ∷ up_to_end ns z k (next_of ns x))) (ne_eqb x z (λ same. out (inl (sym same))))
    ∙ ap (λ l. x ∷ l) (followed ns prev x z k xs c.2 (λ h. out (inr h)) (omega arith))

pub lists_read : (ns : List Node) (exits : ℕ) (lists : List (List ℕ)) → IsLinked ns exits lists → lists_of ns exits ≡ lists
lists_read ns exits lists linked =
    let heads : length ns - exits ≡ length lists = omega (arith, linked.count) in
    let f : ℕ → List ℕ = λ h. list_from ns (exits + h) in
    let long = length-map-range_with_len f 0 (length ns - exits) in
    ext_get_or [] (lists_of ns exits) lists (long ∙ heads) (λ h within.
    let here : h < length lists = omega arith in
    get_or-map-range_with_len f 0 (length ns - exits) h h [] (omega arith) (omega arith)
    ∙ followed ns (prev_of ns) (exits + h) (exits + h) (length ns) (get_or lists h []) (linked.rings h here) (λ inside. absurd (omega (arith, (linked.owned h (exits + h) inside).0)))
    (let all = at_most (get_or lists h []) exits (linked.differ h) (λ e inside. (linked.owned h e inside).0) in omega (arith, linked.count)))
