use Rattle.fragment.proofs.Values.{built-value}
use Rattle.fragment.proofs.laws.the_value_is_the_block.Goals as goal

pub returns : goal.returns
returns c = built-value
