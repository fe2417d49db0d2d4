-- The right to free may be sent to another thread, where its allocator may.
use denote.RattleType.{RattleType}
use denote.Param.Send.{IsSend, Frees}
use Rattle.core.specs.declared.alloc.Allocator.{Ghosts}
use Rattle.in_lists.proofs.Crosses.{Claim-send}
use Rattle.in_lists.specs.contracts.block.Claim.{the_row}

pub send : (A : RattleType) (g : Ghosts A.Denot) → IsSend A → Frees g g.dealloc_token → IsSend (the_row A g)
send = Claim-send
