-- A list of nodes, and the changes that are made to it.
use Rattle.std.specs.Prelude.{◌≡◌, ℕ, List, Option, None, get_or, slice_set}
use Rattle.in_lists.specs.declared.node.Node.{Node}

-- the node at index i, linked to none but itself
abbrev pub alone : ℕ → Node
alone i = record { next = i; prev = i; head = None }

abbrev pub node_at : List Node → ℕ → Node
node_at ns i = get_or ns i (alone i)

-- each node is alone
abbrev pub AllAlone : List Node → Type 0
AllAlone ns = (i : ℕ) → node_at ns i ≡ alone i

abbrev pub with_next : List Node → ℕ → ℕ → List Node
with_next ns i j = slice_set ns i (record (node_at ns i) { next = j })

abbrev pub with_prev : List Node → ℕ → ℕ → List Node
with_prev ns i j = slice_set ns i (record (node_at ns i) { prev = j })

abbrev pub with_head : List Node → ℕ → Option ℕ → List Node
with_head ns i h = slice_set ns i (record (node_at ns i) { head = h })

-- node b comes right after node a
abbrev pub joined : List Node → ℕ → ℕ → List Node
joined ns a b = with_prev (with_next ns a b) b a
