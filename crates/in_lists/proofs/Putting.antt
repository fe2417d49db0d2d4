-- A node is linked in right after the end.
use Rattle.std.proofs.Common.{◌≡◌, ◌≢◌, ℕ, ◌+◌, ◌<◌, ◌⊎◌, inl, inr, List, [], ◌∷◌, length, set, length-set, get_or, get_or-set_same, get_or-set_other, Some, refl, sym, ap, ◌∙◌, subst, arith}
use Rattle.in_lists.specs.declared.node.Node.{Node}
use Rattle.in_lists.specs.Nodes.{with_head, joined}
use Rattle.in_lists.specs.Linked.{next_of, prev_of, head_of, Chain, In, AllDiffer, IsLinked}
use Rattle.in_lists.proofs.Chains.{same_or_not, In_along, same_chain, moved_start, first_in}
use Rattle.in_lists.proofs.Keeping.{same_some}
use Rattle.in_lists.proofs.Links.{length-joined, length-with_head, next-joined, next-joined_other, prev-joined, prev-joined_other, head-joined, next-with_head, prev-with_head, head-with_head, head-with_head_other}

-- no exit is an end
pub not_end : (exits e h i : ℕ) → e < exits → i ≡ exits + h → i ≢ e
not_end exits e h i below is same = absurd (omega arith)

module _ (ns : List Node) (exits : ℕ) (lists : List (List ℕ)) (linked : IsLinked ns exits lists) (h : ℕ) (fh : h < length lists) where
  abbrev list : List ℕ
  list = get_or lists h []

  abbrev end : ℕ
  end = exits + h

  pub end_within : end < length ns
  end_within = omega (arith, linked.count)

  pub exit_within : (e : ℕ) → e < exits → e < length ns
  exit_within e below = omega (arith, linked.count)

  -- the first exit, or the end
  pub first_is : In (next_of ns end) list ⊎ (next_of ns end ≡ end)
  first_is = first_in (next_of ns) (prev_of ns) end end list (linked.rings h fh)

  pub first_within : next_of ns end < length ns
  first_within = elim first_is [ inl inside ↦ exit_within (next_of ns end) (linked.owned h (next_of ns end) inside).0 | inr same ↦ let fits = end_within in omega arith ]

  module _ (e : ℕ) (fe : e < exits) (absent : (g : ℕ) → In e (get_or lists g []) → ⊥) where
    abbrev first : ℕ
    first = next_of ns end

    abbrev one : List Node
    one = joined ns e first

    abbrev two : List Node
    two = joined one end e

    abbrev pub put_nodes : List Node
    put_nodes = with_head two e (Some h)

    abbrev pub put_lists : List (List ℕ)
    put_lists = set lists h (e ∷ list)

    we : e < length ns
    we = exit_within e fe

    we1 : e < length one
    we1 = let fits = we in omega (arith, length-joined ns e first)

    wend1 : end < length one
    wend1 = let fits = end_within in omega (arith, length-joined ns e first)

    we2 : e < length two
    we2 = let fits = we in omega (arith, length-joined ns e first, length-joined one end e)

    end≢e : end ≢ e
    end≢e = not_end exits e h end fe refl

    first≢e : first ≢ e
    first≢e same = elim first_is [ inl inside ↦ absent h (In_along first e list same inside) | inr is ↦ end≢e (sym is ∙ same) ]

    next_end : next_of put_nodes end ≡ e
    next_end = next-with_head two e (Some h) we2 end ∙ next-joined one end e wend1 we1

    next_e : next_of put_nodes e ≡ first
    next_e = next-with_head two e (Some h) we2 e ∙ next-joined_other one end e wend1 we1 e (λ same. end≢e (sym same)) ∙ next-joined ns e first we first_within

    next_other : (i : ℕ) → i ≢ end → i ≢ e → next_of put_nodes i ≡ next_of ns i
    next_other i no_end other = next-with_head two e (Some h) we2 i ∙ next-joined_other one end e wend1 we1 i no_end ∙ next-joined_other ns e first we first_within i other

    prev_e : prev_of put_nodes e ≡ end
    prev_e = prev-with_head two e (Some h) we2 e ∙ prev-joined one end e wend1 we1

    prev_first : prev_of put_nodes first ≡ e
    prev_first = prev-with_head two e (Some h) we2 first ∙ prev-joined_other one end e wend1 we1 first first≢e ∙ prev-joined ns e first we first_within

    prev_other : (i : ℕ) → i ≢ e → i ≢ first → prev_of put_nodes i ≡ prev_of ns i
    prev_other i other no_first = prev-with_head two e (Some h) we2 i ∙ prev-joined_other one end e wend1 we1 i other ∙ prev-joined_other ns e first we first_within i no_first

    head_e : head_of put_nodes e ≡ Some h
    head_e = head-with_head two e (Some h) we2

    head_other : (i : ℕ) → i ≢ e → head_of put_nodes i ≡ head_of ns i
    head_other i other = head-with_head_other two e (Some h) we2 i other ∙ head-joined one end e wend1 we1 i ∙ head-joined ns e first we first_within i

    list_here : get_or put_lists h [] ≡ e ∷ list
    list_here = get_or-set_same lists h (e ∷ list) [] fh

    list_other : (g : ℕ) → g ≢ h → get_or put_lists g [] ≡ get_or lists g []
    list_other g other = get_or-set_other lists h g (e ∷ list) [] other

    -- an exit of a list is neither an end nor e
    inside_apart : (g i : ℕ) → In i (get_or lists g []) → (i < exits) × (i ≢ e)
    inside_apart g i inside = ((linked.owned g i inside).0, λ same. absent g (In_along i e (get_or lists g []) same inside))

    ring_here : Chain (next_of put_nodes) (prev_of put_nodes) end (e ∷ list) end
    ring_here = (
      next_end,
      prev_e,
      moved_start (next_of ns) (prev_of ns) (next_of put_nodes) (prev_of put_nodes) end e end list (linked.rings h fh) (linked.differ h)
          (λ inside. let below = (linked.owned h end inside).0 in absurd (omega arith)) next_e prev_first
          (λ i inside. let at = inside_apart h i inside in next_other i (λ same. let below = at.0 in absurd (omega arith)) at.1)
          (λ i at no_first. prev_other i (elim at [ inl inside ↦ (inside_apart h i inside).1 | inr is ↦ not_end exits e h i fe is ]) no_first),
    )

    -- the links of another list are as they were
    ring_other : (g : ℕ) → g < length lists → g ≢ h → Chain (next_of put_nodes) (prev_of put_nodes) (exits + g) (get_or lists g []) (exits + g)
    ring_other g fg other =
        same_chain (next_of ns) (prev_of ns) (next_of put_nodes) (prev_of put_nodes) (exits + g) (exits + g) (get_or lists g []) (linked.rings g fg)
        (λ i at. elim at [
          | inl is ↦ next_other i (λ same. other (omega arith)) (not_end exits e g i fe is)
          | inr inside ↦ let at = inside_apart g i inside in next_other i (λ same. let below = at.0 in absurd (omega arith)) at.1
        ])
        (λ i at. elim at [
          | inl inside ↦ let here = inside_apart g i inside in prev_other i here.1 (λ same. elim first_is [
            | inl in_list ↦ other (same_some g h (sym (linked.owned g i inside).1 ∙ (linked.owned h i (In_along first i list (sym same) in_list)).1))
            | inr is ↦ let below = here.0 in absurd (omega arith)
          ])
          | inr is ↦ prev_other i (not_end exits e g i fe is) (λ same. elim first_is [
            | inl in_list ↦ let below = (linked.owned h first in_list).0 in absurd (omega arith)
            | inr at_end ↦ other (omega arith)
          ])
        ])

    pub put_linked : IsLinked put_nodes exits put_lists
    put_linked = record {
      count = omega (arith, linked.count, length-joined ns e first, length-joined one end e, length-with_head two e (Some h), length-set lists h (e ∷ list));
      rings = λ g fg. let within : g < length lists = omega (arith, length-set lists h (e ∷ list)) in elim (same_or_not g h) [
        | inl same ↦ subst (λ k. Chain (next_of put_nodes) (prev_of put_nodes) (exits + k) (get_or put_lists k []) (exits + k)) (sym same)
            (subst (λ l. Chain (next_of put_nodes) (prev_of put_nodes) end l end) (sym list_here) ring_here)
        | inr other ↦ subst (λ l. Chain (next_of put_nodes) (prev_of put_nodes) (exits + g) l (exits + g)) (sym (list_other g other)) (ring_other g within other)
      ];
      owned = λ g i inside. elim (same_or_not g h) [
        | inl same ↦ elim (subst (In i) (ap (λ k. get_or put_lists k []) same ∙ list_here) inside) [
          | inl is ↦ (subst (λ k. k < exits) (sym is) fe, ap (head_of put_nodes) is ∙ head_e ∙ ap Some (sym same))
          | inr later ↦ let had = linked.owned h i later in (had.0, head_other i (inside_apart h i later).1 ∙ had.1 ∙ ap Some (sym same))
        ]
        | inr other ↦ let before = subst (In i) (list_other g other) inside in let had = linked.owned g i before in (had.0, head_other i (inside_apart g i before).1 ∙ had.1)
      ];
      found = λ i g fi has. elim (same_or_not i e) [
        | inl is ↦ let same : g ≡ h = same_some g h (sym has ∙ ap (head_of put_nodes) is ∙ head_e) in
            (omega (arith, fh, length-set lists h (e ∷ list)), subst (In i) (sym list_here ∙ ap (λ k. get_or put_lists k []) (sym same)) (inl is))
        | inr apart ↦ let had = linked.found i g fi (sym (head_other i apart) ∙ has) in (
          omega (arith, had.0, length-set lists h (e ∷ list)),
          elim (same_or_not g h) [
            | inl same ↦ subst (In i) (sym list_here ∙ ap (λ k. get_or put_lists k []) (sym same)) (inr (subst (λ k. In i (get_or lists k [])) same had.1))
            | inr other ↦ subst (In i) (sym (list_other g other)) had.1
          ],
        )
      ];
      differ = λ g. elim (same_or_not g h) [
        | inl same ↦ subst AllDiffer (sym list_here ∙ ap (λ k. get_or put_lists k []) (sym same)) (absent h, linked.differ h)
        | inr other ↦ subst AllDiffer (sym (list_other g other)) (linked.differ g)
      ];
    }
