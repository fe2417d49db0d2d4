use Rattle.std.proofs.Common.{arith}
use Rattle.std.proofs.lemmas.Bool.Decides.{nat_tests}
use Rattle.code_writes.specs.Block.{passes}
use Rattle.code_writes.proofs.page.Block.is_met.Goals as goal

pub returns-then-from-self : goal.returns-then-from-self
unfolding passes
returns-then-from-self c = grind (arith, nat_tests)

pub returns-else-from-self : goal.returns-else-from-self
unfolding passes
returns-else-from-self c = grind (arith, nat_tests)
