use Rattle.block_ledger.proofs.Room.{offers-stand-alone}
use Rattle.block_ledger.proofs.laws.offers_stand_alone.Goals as goal

pub returns : goal.returns
returns c = offers-stand-alone
