use Rattle.std.proofs.Common.{arith}
use Rattle.std.proofs.lemmas.Bool.Decides.{nat_tests}
use Rattle.manifest.proofs.Counting.{count_seen}
use Rattle.manifest.proofs.lists.is_within.Goals as goal

pub returns-then-items-ge1-clause-within : goal.returns-then-items-ge1-clause-within
returns-then-items-ge1-clause-within c = rw (count_seen c.args.items.now) (grind (arith, nat_tests))
