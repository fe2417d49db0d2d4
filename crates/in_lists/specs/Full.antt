-- The nodes of a block that has no room left.
use Rattle.std.specs.Prelude.{◌≡◌, List, length}
use Rattle.in_lists.specs.declared.node.Node.{Node}
use Rattle.in_lists.specs.declared.nodes.Nodes.TheInside.{Inside}

abbrev pub nodes_of : Inside → List Node
nodes_of a = a.block.nodes

-- every place has its node, and the claim is the right to free this very block
pub record IsFull (a : Inside) : Type 0 where
  pub written : length a.block.nodes ≡ a.len
  pub start : a.claim.start ≡ a.block.start
  pub len : a.claim.len ≡ a.len
  pub alloc : a.claim.alloc ≡ a.alloc
