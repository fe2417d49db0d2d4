use Rattle.slot_list.proofs.Uses.{listed}
use Rattle.slot_list.proofs.laws.recipes_are_listed.Goals as goal

pub returns : goal.returns
returns c = listed
