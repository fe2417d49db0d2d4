-- A node is cut out of its list.
use Rattle.std.proofs.Common.{◌≡◌, ◌≢◌, ℕ, ◌+◌, ◌<◌, ◌⊎◌, inl, inr, List, [], ◌∷◌, map, drop, length, set, get_or, get_or-set_same, get_or-set_other, length-set, ext_get_or, Some, None, refl, sym, ap, ◌∙◌, subst, arith}
use Rattle.std.proofs.Math.ListN.{get_or-map}
use Rattle.std.proofs.lemmas.List.{length-map}
use Rattle.in_lists.specs.declared.node.Node.{Node}
use Rattle.in_lists.specs.Nodes.{with_head, joined}
use Rattle.in_lists.specs.Lists.{without}
use Rattle.in_lists.specs.Linked.{next_of, prev_of, head_of, Chain, In, AllDiffer, IsLinked}
use Rattle.in_lists.proofs.Chains.{same_or_not, In_along, without_absent, without_first, In-without, without-In, AllDiffer-without, same_chain, cut_chain, next_in, prev_in}
use Rattle.in_lists.proofs.Keeping.{same_some}
use Rattle.in_lists.proofs.Links.{length-joined, length-with_head, next-joined, next-joined_other, prev-joined, prev-joined_other, head-joined, next-with_head, prev-with_head, head-with_head, head-with_head_other}
use Rattle.in_lists.proofs.Putting.{end_within, exit_within}

module _ (ns : List Node) (exits : ℕ) (lists : List (List ℕ)) (linked : IsLinked ns exits lists) (h e : ℕ) (inside : In e (get_or lists h [])) where
  abbrev list : List ℕ
  list = get_or lists h []

  abbrev end : ℕ
  end = exits + h

  abbrev before : ℕ
  before = prev_of ns e

  abbrev after : ℕ
  after = next_of ns e

  fe : e < exits
  fe = (linked.owned h e inside).0

  is_here : head_of ns e ≡ Some h
  is_here = (linked.owned h e inside).1

  fh : h < length lists
  fh = (linked.found e h fe is_here).0

  ring : Chain (next_of ns) (prev_of ns) end list end
  ring = linked.rings h fh

  after_is : In after list ⊎ (after ≡ end)
  after_is = next_in (next_of ns) (prev_of ns) end e end list ring inside

  before_is : In before (end ∷ list)
  before_is = prev_in (next_of ns) (prev_of ns) end e end list ring inside

  pub cut_within : e < length ns
  cut_within = exit_within ns exits lists linked h fh e fe

  pub after_within : after < length ns
  after_within = elim after_is [ inl there ↦ exit_within ns exits lists linked h fh after (linked.owned h after there).0 | inr same ↦ let fits = end_within ns exits lists linked h fh in omega arith ]

  pub before_within : before < length ns
  before_within = elim before_is [ inl same ↦ let fits = end_within ns exits lists linked h fh in omega arith | inr there ↦ exit_within ns exits lists linked h fh before (linked.owned h before there).0 ]

  abbrev one : List Node
  one = joined ns before after

  abbrev pub cut_nodes : List Node
  cut_nodes = with_head one e None

  abbrev pub cut_lists : List (List ℕ)
  cut_lists = map (without e) lists

  we1 : e < length one
  we1 = let fits = cut_within in omega (arith, length-joined ns before after)

  next_before : next_of cut_nodes before ≡ after
  next_before = next-with_head one e None we1 before ∙ next-joined ns before after before_within after_within

  next_other : (i : ℕ) → i ≢ before → next_of cut_nodes i ≡ next_of ns i
  next_other i other = next-with_head one e None we1 i ∙ next-joined_other ns before after before_within after_within i other

  prev_after : prev_of cut_nodes after ≡ before
  prev_after = prev-with_head one e None we1 after ∙ prev-joined ns before after before_within after_within

  prev_other : (i : ℕ) → i ≢ after → prev_of cut_nodes i ≡ prev_of ns i
  prev_other i other = prev-with_head one e None we1 i ∙ prev-joined_other ns before after before_within after_within i other

  head_e : head_of cut_nodes e ≡ None
  head_e = head-with_head one e None we1

  head_apart : (i : ℕ) → i ≢ e → head_of cut_nodes i ≡ head_of ns i
  head_apart i other = head-with_head_other one e None we1 i other ∙ head-joined ns before after before_within after_within i

  list_at : (g : ℕ) → get_or cut_lists g [] ≡ without e (get_or lists g [])
  list_at g = get_or-map (without e) lists g []

  -- the lists of two heads share no exit
  one_list : (g k i : ℕ) → In i (get_or lists g []) → In i (get_or lists k []) → g ≡ k
  one_list g k i a b = same_some g k (sym (linked.owned g i a).1 ∙ (linked.owned k i b).1)

  absent_elsewhere : (g : ℕ) → g ≢ h → In e (get_or lists g []) → ⊥
  absent_elsewhere g other there = other (one_list g h e there inside)

  ring_here : Chain (next_of cut_nodes) (prev_of cut_nodes) end (without e list) end
  ring_here =
      let no_end : In end list → ⊥ = λ there. let below = (linked.owned h end there).0 in absurd (omega arith) in
      cut_chain (next_of ns) (prev_of ns) (next_of cut_nodes) (prev_of cut_nodes) end e end list ring inside (linked.differ h) no_end no_end next_before prev_after next_other prev_other

  ring_other : (g : ℕ) → g < length lists → g ≢ h → Chain (next_of cut_nodes) (prev_of cut_nodes) (exits + g) (get_or lists g []) (exits + g)
  ring_other g fg other =
      same_chain (next_of ns) (prev_of ns) (next_of cut_nodes) (prev_of cut_nodes) (exits + g) (exits + g) (get_or lists g []) (linked.rings g fg)
      (λ i at. next_other i (λ same. elim at [
        | inl is ↦ elim before_is [
          | inl at_end ↦ other (omega arith)
          | inr there ↦ let below = (linked.owned h before there).0 in absurd (omega arith)
        ]
        | inr here ↦ elim before_is [
          | inl at_end ↦ let below = (linked.owned g i here).0 in absurd (omega arith)
          | inr there ↦ other (one_list g h i here (In_along before i list (sym same) there))
        ]
      ]))
      (λ i at. prev_other i (λ same. elim at [
        | inl here ↦ elim after_is [
          | inl there ↦ other (one_list g h i here (In_along after i list (sym same) there))
          | inr at_end ↦ let below = (linked.owned g i here).0 in absurd (omega arith)
        ]
        | inr is ↦ elim after_is [
          | inl there ↦ let below = (linked.owned h after there).0 in absurd (omega arith)
          | inr at_end ↦ other (omega arith)
        ]
      ]))

  pub cut_linked : IsLinked cut_nodes exits cut_lists
  cut_linked = record {
    count = omega (arith, linked.count, length-joined ns before after, length-with_head one e None, length-map lists (without e));
    rings = λ g fg. let within : g < length lists = omega (arith, length-map lists (without e)) in
        subst (λ l. Chain (next_of cut_nodes) (prev_of cut_nodes) (exits + g) l (exits + g)) (sym (list_at g)) (elim (same_or_not g h) [
          | inl same ↦ subst (λ k. Chain (next_of cut_nodes) (prev_of cut_nodes) (exits + k) (without e (get_or lists k [])) (exits + k)) (sym same) ring_here
          | inr other ↦ subst (λ l. Chain (next_of cut_nodes) (prev_of cut_nodes) (exits + g) l (exits + g)) (sym (without_absent e (get_or lists g []) (absent_elsewhere g other))) (ring_other g within other)
        ]);
    owned = λ g i there. let had = In-without e i (get_or lists g []) (subst (In i) (list_at g) there) in
        ((linked.owned g i had.0).0, head_apart i had.1 ∙ (linked.owned g i had.0).1);
    found = λ i g fi has. elim (same_or_not i e) [
      | inl is ↦ let clash : None ≡ Some g = sym head_e ∙ ap (head_of cut_nodes) (sym is) ∙ has in cc
      | inr apart ↦ let had = linked.found i g fi (sym (head_apart i apart) ∙ has) in
          (omega (arith, had.0, length-map lists (without e)), subst (In i) (sym (list_at g)) (without-In e i (get_or lists g []) had.1 apart))
    ];
    differ = λ g. subst AllDiffer (sym (list_at g)) (AllDiffer-without e (get_or lists g []) (linked.differ g));
  }

  -- where e is the first of its list, the cut leaves the rest of it, and the other lists
  pub cut_first : (rest : List ℕ) → list ≡ e ∷ rest → cut_lists ≡ set lists h (drop 1 list)
  cut_first rest is =
      ext_get_or [] cut_lists (set lists h (drop 1 list)) (length-map lists (without e) ∙ sym (length-set lists h (drop 1 list))) (λ g within. list_at g ∙ elim (same_or_not g h) [
        | inl same ↦ ap (λ k. without e (get_or lists k [])) same ∙ ap (without e) is ∙ without_first e e rest refl ((subst AllDiffer is (linked.differ h)).0) ∙ sym (ap (drop 1) is)
            ∙ sym (get_or-set_same lists h (drop 1 list) [] fh) ∙ ap (λ k. get_or (set lists h (drop 1 list)) k []) (sym same)
        | inr other ↦ without_absent e (get_or lists g []) (absent_elsewhere g other) ∙ sym (get_or-set_other lists h g (drop 1 list) [] other)
      ])
