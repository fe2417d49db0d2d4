-- Which exits are in which lists after each call, for a caller's proofs.
use Rattle.std.proofs.Common.{◌≡◌, ◌≢◌, ℕ, ◌<◌, ◌⊎◌, inl, inr, eqb, List, [], ◌∷◌, drop, length, get_or-set_same, get_or-set_other, false, refl, sym, ap, ◌∙◌, subst}
use Rattle.std.proofs.Math.ListN.{get_or-map}
use Rattle.std.proofs.lemmas.Bool.{eq-eqb}
use Rattle.std.specs.Prelude.{◌↔◌}
use Rattle.std.specs.List.{IsDistinct, AllByRecursion}
use Rattle.in_lists.specs.Lists.{Incoming, IsIn, IsKept, all_empty, list_of, with_list, cut_out, without}
use Rattle.in_lists.specs.Linked.{In}
use Rattle.in_lists.proofs.Chains.{same_or_not, In-without, without-In}
use Rattle.in_lists.proofs.Emptied.{no_list}
use Rattle.in_lists.proofs.Keeping.{Contains-from_In, In-from_Contains}

pub nothing_in_empty : (exits heads e h : ℕ) → IsIn (all_empty exits heads) e h → ⊥
nothing_in_empty exits heads e h inside = subst (In e) (no_list heads h) (In-from_Contains e (list_of (all_empty exits heads) h) inside)

never_again : (x y : ℕ) (xs : List ℕ) → AllByRecursion (λ z. eqb x z ≡ false) xs → In y xs → x ≡ y → ⊥
never_again x y [] all h same = h
never_again x y (z ∷ zs) all h same = elim h [
  | inl here ↦ let yes = eq-eqb x z (same ∙ here) in let no = all.0 in cc
  | inr later ↦ never_again x y zs all.1 later same
]

first_once : (x : ℕ) (xs : List ℕ) → IsDistinct eqb (x ∷ xs) → In x xs → ⊥
unfolding IsDistinct
first_once x xs d h = never_again x x xs d.0 h refl

module _ (v : Incoming) where
  -- in the list that a head has been given, or in another head's as before
  in_given : (h x g : ℕ) (list : List ℕ) → h < length v.lists → IsIn (with_list v h list) x g ↔ ((In x list × (g ≡ h)) ⊎ (IsIn v x g × (g ≢ h)))
  in_given h x g list fh = elim (same_or_not g h) [
    | inl same ↦ let is : list_of (with_list v h list) g ≡ list = ap (list_of (with_list v h list)) same ∙ get_or-set_same v.lists h list [] fh in (
      λ inside. inl (subst (In x) is (In-from_Contains x (list_of (with_list v h list) g) inside), same),
      λ either. elim either [
        | inl here ↦ Contains-from_In x (list_of (with_list v h list) g) (subst (In x) (sym is) here.0)
        | inr other ↦ absurd (other.1 same)
      ],
    )
    | inr other ↦ let is : list_of (with_list v h list) g ≡ list_of v g = get_or-set_other v.lists h g list [] other in (
      λ inside. inr (Contains-from_In x (list_of v g) (subst (In x) is (In-from_Contains x (list_of (with_list v h list) g) inside)), other),
      λ either. elim either [
        | inl here ↦ absurd (other here.1)
        | inr there ↦ Contains-from_In x (list_of (with_list v h list) g) (subst (In x) (sym is) (In-from_Contains x (list_of v g) there.0))
      ],
    )
  ]

  pub in_put : (e h x g : ℕ) → h < length v.lists → IsIn (with_list v h (e ∷ list_of v h)) x g ↔ (((x ≡ e) × (g ≡ h)) ⊎ IsIn v x g)
  in_put e h x g fh = let given = in_given h x g (e ∷ list_of v h) fh in (
    λ inside. elim (given.0 inside) [
      | inl here ↦ elim here.0 [
        | inl is ↦ inl (is, here.1)
        | inr later ↦ inr (subst (IsIn v x) (sym here.1) (Contains-from_In x (list_of v h) later))
      ]
      | inr there ↦ inr there.0
    ],
    λ either. given.1 (elim either [
      | inl here ↦ inl (inl here.0, here.1)
      | inr there ↦ elim (same_or_not g h) [
        | inl same ↦ inl (inr (In-from_Contains x (list_of v h) (subst (IsIn v x) same there)), same)
        | inr other ↦ inr (there, other)
      ]
    ]),
  )

  pub in_cut : (e x g : ℕ) → IsIn (cut_out v e) x g ↔ (IsIn v x g × (x ≢ e))
  in_cut e x g = let is : list_of (cut_out v e) g ≡ without e (list_of v g) = get_or-map (without e) v.lists g [] in (
    λ inside. let had = In-without e x (list_of v g) (subst (In x) is (In-from_Contains x (list_of (cut_out v e) g) inside)) in (Contains-from_In x (list_of v g) had.0, had.1),
    λ there. Contains-from_In x (list_of (cut_out v e) g) (subst (In x) (sym is) (without-In e x (list_of v g) (In-from_Contains x (list_of v g) there.0) there.1)),
  )

  pub in_rest : (h first x g : ℕ) (rest : List ℕ) → h < length v.lists → IsKept v → list_of v h ≡ first ∷ rest
      → IsIn (with_list v h (drop 1 (list_of v h))) x g ↔ (IsIn v x g × (x ≢ first))
  in_rest h first x g rest fh kept is =
      let given = in_given h x g (drop 1 (list_of v h)) fh in
      let begins : IsIn v first h = Contains-from_In first (list_of v h) (subst (In first) (sym is) (inl refl)) in (
        λ inside. elim (given.0 inside) [
          | inl here ↦ let later : In x rest = subst (In x) (ap (drop 1) is) here.0 in (
            subst (IsIn v x) (sym here.1) (Contains-from_In x (list_of v h) (subst (In x) (sym is) (inr later))),
            λ same. first_once first rest (subst (IsDistinct eqb) is (kept.once h)) (subst (λ i. In i rest) same later),
          )
          | inr there ↦ (there.0, λ same. there.1 (kept.one_list first g h (subst (λ i. IsIn v i g) same there.0) begins))
        ],
        λ there. given.1 (elim (same_or_not g h) [
          | inl same ↦ elim (subst (In x) is (In-from_Contains x (list_of v h) (subst (IsIn v x) same there.0))) [
            | inl first_is ↦ absurd (there.1 first_is)
            | inr later ↦ inl (subst (In x) (sym (ap (drop 1) is)) later, same)
          ]
          | inr other ↦ inr (there.0, other)
        ]),
      )
