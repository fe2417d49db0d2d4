-- How the lists lie in the nodes. Node e is exit e. Node exits + h is the end of head h's list, which is a ring: the end's next node is the first
-- exit, and the last exit's next node is the end. An exit in no list has no head.
use Rattle.std.specs.Prelude.{◌≡◌, ℕ, zero, suc, ◌+◌, ◌-◌, ◌<◌, ◌==◌, ◌⊎◌, cond, List, [], ◌∷◌, map, length, get_or, Option, Some}
use Rattle.std.specs.List.{range_with_len}
use Rattle.in_lists.specs.declared.node.Node.{Node}
use Rattle.in_lists.specs.Nodes.{node_at}

abbrev pub next_of : List Node → ℕ → ℕ
next_of ns i = (node_at ns i).next

abbrev pub prev_of : List Node → ℕ → ℕ
prev_of ns i = (node_at ns i).prev

abbrev pub head_of : List Node → ℕ → Option ℕ
head_of ns i = (node_at ns i).head

-- the nodes from node i on and before the end, at most count of them
abbrev pub up_to_end : List Node → ℕ → ℕ → ℕ → List ℕ
up_to_end ns end zero i = []
up_to_end ns end (suc count) i = cond (i == end) [] (i ∷ up_to_end ns end count (next_of ns i))

abbrev pub list_from : List Node → ℕ → List ℕ
list_from ns end = up_to_end ns end (length ns) (next_of ns end)

abbrev pub lists_of : List Node → ℕ → List (List ℕ)
lists_of ns exits = map (λ h. list_from ns (exits + h)) (range_with_len 0 (length ns - exits))

-- the links go from a over the exits of the list to z, and back
abbrev pub Chain : (ℕ → ℕ) → (ℕ → ℕ) → ℕ → List ℕ → ℕ → Type 0
Chain next prev a [] z = (next a ≡ z) × (prev z ≡ a)
Chain next prev a (x ∷ xs) z = (next a ≡ x) × (prev x ≡ a) × Chain next prev x xs z

abbrev pub In : ℕ → List ℕ → Type 0
In e [] = ⊥
In e (x ∷ xs) = (e ≡ x) ⊎ In e xs

abbrev pub AllDiffer : List ℕ → Type 0
AllDiffer [] = Unit {0}
AllDiffer (x ∷ xs) = (In x xs → ⊥) × AllDiffer xs

pub record IsLinked (ns : List Node) (exits : ℕ) (lists : List (List ℕ)) : Type 0 where
  pub count : length ns ≡ exits + length lists
  pub rings : (h : ℕ) → h < length lists → Chain (next_of ns) (prev_of ns) (exits + h) (get_or lists h []) (exits + h)
  pub owned : (h e : ℕ) → In e (get_or lists h []) → (e < exits) × (head_of ns e ≡ Some h)
  pub found : (e h : ℕ) → e < exits → head_of ns e ≡ Some h → (h < length lists) × In e (get_or lists h [])
  pub differ : (h : ℕ) → AllDiffer (get_or lists h [])
