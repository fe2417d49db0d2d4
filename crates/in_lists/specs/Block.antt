-- What a block and the right to free it own.
use Rattle.std.specs.Prelude.{ℕ, zero, suc, ◌+◌, List, [], ◌∷◌}
use base.Fraction.{full_share}
use base.Fml.{Lft, Fml, fsep, froom}
use mir.Syntax.{Ty, ty_array}
use mir.Raw.{raw}
use denote.Memory.{lone, part_at, shared_of}
use denote.Sharing.{nothing, beside}
use Rattle.in_lists.specs.declared.node.Node.{Node}
use Rattle.in_lists.specs.contracts.node.Node.{the_row}

-- how a node lies in memory, and how many bytes it takes
abbrev pub node_type : Ty
node_type = lone the_row.mir

abbrev pub node_size : ℕ
node_size = 24

-- what the allocator is asked for
abbrev pub block_type : ℕ → Ty
block_type len = raw (ty_array node_type len)

-- from the offset o of the object b on, the nodes side by side, and behind them room for more
abbrev pub laid : ℕ → ℕ → List Node → ℕ → Fml
laid b o [] more = froom (ty_array node_type more) b o
laid b o (n ∷ ns) more = fsep (part_at the_row full_share n b o) (laid b (o + node_size) ns more)

-- the nodes there, as a `&` shows them
abbrev pub shown : ℕ → ℕ → List Node → Lft → Fml
shown b o [] = nothing
shown b o (n ∷ ns) = beside (shared_of the_row n b o) (shown b (o + node_size) ns)

-- n in the place i, which holds a node or is the first with none
abbrev pub put_at : List Node → ℕ → Node → List Node
put_at [] i n = n ∷ []
put_at (m ∷ ms) zero n = n ∷ ms
put_at (m ∷ ms) (suc i) n = m ∷ put_at ms i n

-- the room behind the nodes after that
abbrev pub room_after : List Node → ℕ → ℕ → ℕ
room_after [] i zero = zero
room_after [] i (suc more) = more
room_after (m ∷ ms) zero more = more
room_after (m ∷ ms) (suc i) more = room_after ms i more
