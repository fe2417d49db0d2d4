-- What the nodes stand for after each call, over plain values.
use Rattle.std.proofs.Common.{◌≡◌, ◌≢◌, ℕ, ◌+◌, ◌<◌, inl, List, [], ◌∷◌, drop, length, set, get_or, replicate, Some, None, refl, sym, ap, ◌∙◌, subst, arith}
use Rattle.in_lists.specs.declared.node.Node.{Node}
use Rattle.in_lists.specs.Nodes.{AllAlone, node_at, with_head, joined}
use Rattle.in_lists.specs.Lists.{incoming, IsIn, cut_out, with_list}
use Rattle.in_lists.specs.Linked.{next_of, prev_of, head_of, lists_of, Chain, In, IsLinked}
use Rattle.in_lists.proofs.Reading.{lists_read}
use Rattle.in_lists.proofs.Keeping.{In-from_Contains, Contains-from_In}
use Rattle.in_lists.proofs.Putting.{put_linked}
use Rattle.in_lists.proofs.Cutting.{cut_lists, cut_linked, cut_first}
use Rattle.in_lists.proofs.Emptied.{empty_linked}

-- the nodes stand for these lists
pub record StandFor (ns : List Node) (exits : ℕ) (lists : List (List ℕ)) : Type 0 where
  pub whole : IsLinked ns exits (lists_of ns exits)
  pub same : lists_of ns exits ≡ lists

stand_for : (ns : List Node) (exits : ℕ) (lists : List (List ℕ)) → IsLinked ns exits lists → StandFor ns exits lists
stand_for ns exits lists linked =
    let same = lists_read ns exits lists linked in
    record { whole = subst (IsLinked ns exits) (sym same) linked; same = same }

pub after_put : (ns one two three : List Node) (exits : ℕ) (lists : List (List ℕ)) (n : Node) (h e : ℕ) → (linked : IsLinked ns exits lists) (fh : h < length lists) (fe : e < exits)
    → ((g : ℕ) → In e (get_or lists g []) → ⊥) → n ≡ node_at ns (exits + h) → one ≡ joined ns e n.next → two ≡ joined one (exits + h) e → three ≡ with_head two e (Some h)
    → StandFor three exits (set lists h (e ∷ get_or lists h []))
after_put ns one two three exits lists n h e linked fh fe absent is1 is2 is3 is4 =
    let is = is4 ∙ ap (λ m. with_head m e (Some h)) (is3 ∙ ap (λ m. joined m (exits + h) e) (is2 ∙ ap (λ (m : Node). joined ns e m.next) is1)) in
    subst (λ m. StandFor m exits (set lists h (e ∷ get_or lists h []))) (sym is) (stand_for _ exits _ (put_linked ns exits lists linked h fh e fe absent))

pub after_cut : (ns one two : List Node) (exits : ℕ) (lists : List (List ℕ)) (n : Node) (h e : ℕ) → (linked : IsLinked ns exits lists) (inside : In e (get_or lists h []))
    → n ≡ node_at ns e → one ≡ joined ns n.prev n.next → two ≡ with_head one e None → StandFor two exits (cut_lists ns exits lists linked h e inside)
after_cut ns one two exits lists n h e linked inside is1 is2 is3 =
    let is = is3 ∙ ap (λ m. with_head m e None) (is2 ∙ ap (λ (m : Node). joined ns m.prev m.next) is1) in
    subst (λ m. StandFor m exits (cut_lists ns exits lists linked h e inside)) (sym is) (stand_for _ exits _ (cut_linked ns exits lists linked h e inside))

pub after_clear : (ns : List Node) (exits heads : ℕ) → AllAlone ns → length ns ≡ exits + heads → StandFor ns exits (replicate heads [])
after_clear ns exits heads apart long = stand_for ns exits (replicate heads []) (empty_linked ns exits heads apart long)

module _ (ns : List Node) (exits : ℕ) (lists : List (List ℕ)) (linked : IsLinked ns exits lists) where
  -- an exit has a head where it is in the head's list
  pub has_head : (e h : ℕ) → e < exits → head_of ns e ≡ Some h → IsIn (incoming exits lists) e h
  has_head e h below has = Contains-from_In e (get_or lists h []) (linked.found e h below has).1

  pub head_is : (e h : ℕ) → IsIn (incoming exits lists) e h → head_of ns e ≡ Some h
  head_is e h inside = (linked.owned h e (In-from_Contains e (get_or lists h []) inside)).1

  module _ (h : ℕ) (fh : h < length lists) where
    -- the list is empty where the end's next node is the end
    pub none_first : next_of ns (exits + h) ≡ exits + h → get_or lists h [] ≡ []
    none_first same = at (get_or lists h []) (linked.rings h fh) (λ e. linked.owned h e)
      where
        at : (xs : List ℕ) → Chain (next_of ns) (prev_of ns) (exits + h) xs (exits + h) → ((e : ℕ) → In e xs → (e < exits) × (head_of ns e ≡ Some h)) → xs ≡ []
        at [] c below = refl
        at (x ∷ xs) c below = let small = (below x (inl refl)).0 in absurd (omega (arith, c.0))

    -- else it begins with that node
    pub some_first : (i : ℕ) → i ≡ next_of ns (exits + h) → i ≢ exits + h → (rest : List ℕ) × (get_or lists h [] ≡ i ∷ rest)
    some_first i is other = at (get_or lists h []) (linked.rings h fh)
      where
        at : (xs : List ℕ) → Chain (next_of ns) (prev_of ns) (exits + h) xs (exits + h) → (rest : List ℕ) × (xs ≡ i ∷ rest)
        at [] c = absurd (other (is ∙ c.0))
        at (x ∷ xs) c = (xs, ap (λ k. k ∷ xs) (sym (is ∙ c.0)))

    pub first_in_list : (i : ℕ) → i ≡ next_of ns (exits + h) → i ≢ exits + h → In i (get_or lists h [])
    first_in_list i is other = let first = some_first i is other in subst (In i) (sym first.1) (inl refl)

    pub first_below : (i : ℕ) → i ≡ next_of ns (exits + h) → i ≢ exits + h → i < exits
    first_below i is other = (linked.owned h i (first_in_list i is other)).0

    pub after_take : (i : ℕ) → i ≡ next_of ns (exits + h) → i ≢ exits + h → cut_out (incoming exits lists) i ≡ with_list (incoming exits lists) h (drop 1 (get_or lists h []))
    after_take i is other = let first = some_first i is other in ap (incoming exits) (cut_first ns exits lists linked h i (first_in_list i is other) first.0 first.1)
