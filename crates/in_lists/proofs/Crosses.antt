-- A block of nodes and the right to free it may cross threads: a node holds numbers alone.
use Rattle.std.specs.Prelude.{ℕ, ◌+◌, List, [], ◌∷◌}
use base.Fraction.{full_share}
use base.Shift.{Keyless}
use denote.RattleType.{RattleType}
use denote.RawPtr.{block_of, count_of}
use denote.Struct.Struct.{exits_of}
use denote.Struct.Owning.{shape, fields, to}
use denote.Param.Send.{IsSend, AllSend, part_keyless, owning_send, struct_send, sendable}
use Rattle.core.specs.declared.alloc.Allocator.{Ghosts}
use Rattle.std_alloc.proofs.SendSync.{FreesAnywhere, quiet}
use Rattle.in_lists.specs.Block.{laid, node_size, block_type}
use Rattle.in_lists.specs.declared.node.Node.{Node}
use Rattle.in_lists.specs.contracts.node.Node.{the_row}
use Rattle.in_lists.specs.contracts.block.Block as Block
use Rattle.in_lists.specs.contracts.block.Claim as Claim

node_send : IsSend the_row
node_send = search sendable depth 12

laid-Keyless : (b o : ℕ) (ns : List Node) (more : ℕ) → Keyless (laid b o ns more)
laid-Keyless b o [] more = tt
laid-Keyless b o (n ∷ ns) more = (part_keyless the_row node_send full_share n b o, laid-Keyless b (o + node_size) ns more)

pub Block-send : IsSend Block.the_row
Block-send =
    let O = Block.the_type in let all : AllSend (fields O) = (search sendable, tt) in
    owning_send O all (λ d. laid-Keyless (block_of d.start) (count_of d.start) d.nodes d.more) (λ k. quiet (to O) (exits_of k (fields O)) ((struct_send (shape O) all).leaving k))

module _ (A : RattleType) (g : Ghosts A.Denot) where
  pub Claim-send : IsSend A → FreesAnywhere A.Denot g → IsSend (Claim.the_row A g)
  Claim-send s f =
      let O = Claim.the_type A g in let all : AllSend (fields O) = (search sendable, tt) in
      owning_send O all (λ d. f.frees d.alloc (block_type d.len) d.start) (λ k. quiet (to O) (exits_of k (fields O)) ((struct_send (shape O) all).leaving k))
