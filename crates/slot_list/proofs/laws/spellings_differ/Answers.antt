use Rattle.slot_list.proofs.Names.{spelled_apart}
use Rattle.slot_list.proofs.laws.spellings_differ.Goals as goal

pub returns : goal.returns
returns c = spelled_apart c.spellings_are_one.ensures
