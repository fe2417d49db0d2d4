use Rattle.block_ledger.proofs.Room.{none-private}
use Rattle.block_ledger.proofs.laws.a_flush_empties_the_pool.Goals as goal

pub returns : goal.returns
returns c = none-private
