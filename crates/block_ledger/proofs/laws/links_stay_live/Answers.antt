use Rattle.block_ledger.proofs.Views.{links-stay-live}
use Rattle.block_ledger.proofs.laws.links_stay_live.Goals as goal

pub returns : goal.returns
returns c = links-stay-live
