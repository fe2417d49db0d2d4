use Rattle.fragment.proofs.Values.{blocks_unique}
use Rattle.fragment.proofs.laws.blocks_are_unique.Goals as goal

pub returns : goal.returns
returns c = blocks_unique
