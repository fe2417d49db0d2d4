-- Linked lists have each exit in one list at most.
use Rattle.std.proofs.Common.{◌≡◌, ℕ, zero, suc, ◌<◌, inl, inr, List, [], ◌∷◌, length, get_or, Some, sym, ◌∙◌, arith}
use Rattle.std.specs.List.{Contains}
use Rattle.in_lists.specs.declared.node.Node.{Node}
use Rattle.in_lists.specs.Lists.{incoming, IsKept}
use Rattle.in_lists.specs.Linked.{In, IsLinked}
use Rattle.in_lists.proofs.Reading.{IsDistinct-from_AllDiffer}

pub Contains-from_In : (e : ℕ) (xs : List ℕ) → In e xs → Contains xs e
Contains-from_In e [] h = absurd h
Contains-from_In e (x ∷ xs) h = elim h [
  | inl here ↦ (0, omega arith, sym here)
  | inr later ↦ let rest = Contains-from_In e xs later in (suc rest.0, omega arith, rest.2)
]

pub In-from_Contains : (e : ℕ) (xs : List ℕ) → Contains xs e → In e xs
In-from_Contains e xs h = at e xs h.0 h.1 h.2
  where
    at : (e : ℕ) (xs : List ℕ) (k : ℕ) → k < length xs → get_or xs k e ≡ e → In e xs
    at e [] k within same = absurd (omega arith)
    at e (x ∷ xs) zero within same = inl (sym same)
    at e (x ∷ xs) (suc k) within same = inr (at e xs k (omega arith) same)

pub same_some : (a b : ℕ) → Some a ≡ Some b → a ≡ b
same_some a b e = cc

module _ (ns : List Node) (exits : ℕ) (lists : List (List ℕ)) (linked : IsLinked ns exits lists) where
  pub kept : IsKept (incoming exits lists)
  kept = record {
    in_range = λ e h inside. (linked.owned h e (In-from_Contains e (get_or lists h []) inside)).0;
    one_list = λ e h g one two. same_some h g (sym (linked.owned h e (In-from_Contains e (get_or lists h []) one)).1 ∙ (linked.owned g e (In-from_Contains e (get_or lists g []) two)).1);
    once = λ h. IsDistinct-from_AllDiffer (get_or lists h []) (linked.differ h);
  }
