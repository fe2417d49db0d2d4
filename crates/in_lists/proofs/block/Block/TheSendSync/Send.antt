-- A block of nodes may be sent to another thread.
use denote.Param.Send.{IsSend}
use Rattle.in_lists.proofs.Crosses.{Block-send}
use Rattle.in_lists.specs.contracts.block.Block.{the_row}

pub send : IsSend the_row
send = Block-send
