-- Chains of links, as functions from a node to the next and the one before.
use Rattle.std.proofs.Common.{◌≡◌, ◌≢◌, ℕ, ◌⊎◌, inl, inr, not, cond, List, [], ◌∷◌, refl, sym, ap, ◌∙◌, subst}
use Rattle.std.proofs.lemmas.Bool.{eq-eqb, ne_eqb}
use Rattle.std_alloc.proofs.Permutation.{which}
use Rattle.in_lists.specs.Lists.{without}
use Rattle.in_lists.specs.Linked.{Chain, In, AllDiffer}

pub same_or_not : (a b : ℕ) → (a ≡ b) ⊎ (a ≢ b)
same_or_not a b = which a b

pub In_along : (e f : ℕ) (xs : List ℕ) → e ≡ f → In e xs → In f xs
In_along e f xs same h = subst (λ i. In i xs) same h

-- the list without e

without_head : (e x : ℕ) (xs : List ℕ) → x ≡ e → without e (x ∷ xs) ≡ without e xs
without_head e x xs same = ap (λ b. cond (not b) (x ∷ without e xs) (without e xs)) (eq-eqb x e same)

without_other : (e x : ℕ) (xs : List ℕ) → x ≢ e → without e (x ∷ xs) ≡ x ∷ without e xs
without_other e x xs other = ap (λ b. cond (not b) (x ∷ without e xs) (without e xs)) (ne_eqb x e other)

pub without_absent : (e : ℕ) (xs : List ℕ) → (In e xs → ⊥) → without e xs ≡ xs
without_absent e [] out = refl
without_absent e (x ∷ xs) out = without_other e x xs (λ same. out (inl (sym same))) ∙ ap (λ l. x ∷ l) (without_absent e xs (λ h. out (inr h)))

pub without_first : (e x : ℕ) (xs : List ℕ) → x ≡ e → (In x xs → ⊥) → without e (x ∷ xs) ≡ xs
without_first e x xs same out = without_head e x xs same ∙ without_absent e xs (λ h. out (In_along e x xs (sym same) h))

pub In-without : (e i : ℕ) (xs : List ℕ) → In i (without e xs) → In i xs × (i ≢ e)
In-without e i [] h = absurd h
In-without e i (x ∷ xs) h = elim (same_or_not x e) [
  | inl same ↦ let rest = In-without e i xs (subst (In i) (without_head e x xs same) h) in (inr rest.0, rest.1)
  | inr other ↦ elim (subst (In i) (without_other e x xs other) h) [
    | inl here ↦ (inl here, λ is. other (sym here ∙ is))
    | inr later ↦ let rest = In-without e i xs later in (inr rest.0, rest.1)
  ]
]

pub without-In : (e i : ℕ) (xs : List ℕ) → In i xs → i ≢ e → In i (without e xs)
without-In e i [] h other = absurd h
without-In e i (x ∷ xs) h other = elim (same_or_not x e) [
  | inl same ↦ subst (In i) (sym (without_head e x xs same)) (elim h [ inl here ↦ absurd (other (here ∙ same)) | inr later ↦ without-In e i xs later other ])
  | inr apart ↦ subst (In i) (sym (without_other e x xs apart)) (elim h as (λ _. In i (x ∷ without e xs)) [ inl here ↦ inl here | inr later ↦ inr (without-In e i xs later other) ])
]

pub AllDiffer-without : (e : ℕ) (xs : List ℕ) → AllDiffer xs → AllDiffer (without e xs)
AllDiffer-without e [] d = tt
AllDiffer-without e (x ∷ xs) d = elim (same_or_not x e) [
  | inl same ↦ subst AllDiffer (sym (without_head e x xs same)) (AllDiffer-without e xs d.1)
  | inr apart ↦ subst AllDiffer (sym (without_other e x xs apart)) ((λ h. d.0 ((In-without e x xs h).0)), AllDiffer-without e xs d.1)
]

-- where the neighbours of a node of the chain are

module _ (next prev : ℕ → ℕ) where
  after_start : (a z : ℕ) (xs : List ℕ) → Chain next prev a xs z → In (next a) xs ⊎ (next a ≡ z)
  after_start a z [] c = inr c.0
  after_start a z (x ∷ xs) c = inl (inl c.0)

  pub next_in : (a e z : ℕ) (xs : List ℕ) → Chain next prev a xs z → In e xs → In (next e) xs ⊎ (next e ≡ z)
  next_in a e z [] c h = absurd h
  next_in a e z (x ∷ xs) c h = elim h [
    | inl here ↦ elim (after_start x z xs c.2) [
      | inl inside ↦ inl (inr (In_along (next x) (next e) xs (ap next (sym here)) inside))
      | inr end ↦ inr (ap next here ∙ end)
    ]
    | inr later ↦ elim (next_in x e z xs c.2 later) [ inl inside ↦ inl (inr inside) | inr end ↦ inr end ]
  ]

  pub first_in : (a z : ℕ) (xs : List ℕ) → Chain next prev a xs z → In (next a) xs ⊎ (next a ≡ z)
  first_in a z xs c = after_start a z xs c

  pub prev_in : (a e z : ℕ) (xs : List ℕ) → Chain next prev a xs z → In e xs → In (prev e) (a ∷ xs)
  prev_in a e z [] c h = absurd h
  prev_in a e z (x ∷ xs) c h = elim h [
    | inl here ↦ inl (ap prev here ∙ c.1)
    | inr later ↦ inr (prev_in x e z xs c.2 later)
  ]

-- what a change of the links leaves

module _ (next prev next' prev' : ℕ → ℕ) where
  -- the links of the chain are as they were
  pub same_chain : (a z : ℕ) (xs : List ℕ) → Chain next prev a xs z → ((i : ℕ) → In i (a ∷ xs) → next' i ≡ next i) → ((i : ℕ) → In i xs ⊎ (i ≡ z) → prev' i ≡ prev i)
      → Chain next' prev' a xs z
  same_chain a z [] c n p = (n a (inl refl) ∙ c.0, p z (inr refl) ∙ c.1)
  same_chain a z (x ∷ xs) c n p =
      (n a (inl refl) ∙ c.0, p x (inl (inl refl)) ∙ c.1, same_chain x z xs c.2 (λ i h. n i (inr h)) (λ i h. p i (elim h [ inl inside ↦ inl (inr inside) | inr end ↦ inr end ])))

  -- the chain begins at b in the place of a
  pub moved_start : (a b z : ℕ) (xs : List ℕ) → Chain next prev a xs z → AllDiffer xs → (In z xs → ⊥) → next' b ≡ next a → prev' (next a) ≡ b
      → ((i : ℕ) → In i xs → next' i ≡ next i) → ((i : ℕ) → In i xs ⊎ (i ≡ z) → i ≢ next a → prev' i ≡ prev i) → Chain next' prev' b xs z
  moved_start a b z [] c d out n0 p0 n p = (n0 ∙ c.0, ap prev' (sym c.0) ∙ p0)
  moved_start a b z (x ∷ xs) c d out n0 p0 n p = (
    n0 ∙ c.0,
    ap prev' (sym c.0) ∙ p0,
    same_chain x z xs c.2 n (λ i h. elim h [
      | inl inside ↦ p i (inl (inr inside)) (λ is. d.0 (In_along i x xs (is ∙ c.0) inside))
      | inr end ↦ p i (inr end) (λ is. out (inl (sym end ∙ is ∙ c.0)))
    ]),
  )

  -- e is cut out
  pub cut_chain : (a e z : ℕ) (xs : List ℕ) → Chain next prev a xs z → In e xs → AllDiffer xs → (In a xs → ⊥) → (In z xs → ⊥) → next' (prev e) ≡ next e → prev' (next e) ≡ prev e
      → ((i : ℕ) → i ≢ prev e → next' i ≡ next i) → ((i : ℕ) → i ≢ next e → prev' i ≡ prev i) → Chain next' prev' a (without e xs) z
  cut_chain a e z [] c h d start out n0 p0 n p = absurd h
  cut_chain a e z (x ∷ xs) c h d start out n0 p0 n p = elim (same_or_not x e) [
    | inl same ↦
        let before : prev e ≡ a = ap prev (sym same) ∙ c.1 in let after : next e ≡ next x = ap next (sym same) in
        subst (λ l. Chain next' prev' a l z) (sym (without_first e x xs same d.0))
        (moved_start x a z xs c.2 d.1 (λ inside. out (inr inside)) (ap next' (sym before) ∙ n0 ∙ after) (ap prev' (sym after) ∙ p0 ∙ before)
        (λ i inside. n i (λ is. start (inr (In_along i a xs (is ∙ before) inside)))) (λ i _ other. p i (λ is. other (is ∙ after))))
    | inr other ↦
        let later : In e xs = elim h [ inl here ↦ absurd (other (sym here)) | inr later ↦ later ] in
        subst (λ l. Chain next' prev' a l z) (sym (without_other e x xs other)) (
          n a (λ is. start (In_along (prev e) a (x ∷ xs) (sym is) (prev_in next prev x e z xs c.2 later))) ∙ c.0,
          p x (λ is. elim (next_in next prev x e z xs c.2 later) [ inl inside ↦ d.0 (In_along (next e) x xs (sym is) inside) | inr end ↦ out (inl (sym (is ∙ end))) ]) ∙ c.1,
          cut_chain x e z xs c.2 later d.1 d.0 (λ inside. out (inr inside)) n0 p0 n p,
        )
  ]
