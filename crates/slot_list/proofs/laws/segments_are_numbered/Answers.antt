use Rattle.slot_list.proofs.Numbers.{numbered}
use Rattle.slot_list.proofs.laws.segments_are_numbered.Goals as goal

pub returns : goal.returns
returns c = numbered
