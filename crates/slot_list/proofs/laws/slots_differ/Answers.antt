use Rattle.slot_list.proofs.Numbers.{slots_differ}
use Rattle.slot_list.proofs.laws.slots_differ.Goals as goal

pub returns : goal.returns
returns c = slots_differ
