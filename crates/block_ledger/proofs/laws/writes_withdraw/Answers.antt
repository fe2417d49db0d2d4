use Rattle.block_ledger.proofs.Views.{writes-withdraw}
use Rattle.block_ledger.proofs.laws.writes_withdraw.Goals as goal

pub returns : goal.returns
returns c = writes-withdraw
