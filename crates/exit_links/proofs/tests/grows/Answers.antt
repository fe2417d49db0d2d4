use Rattle.std.proofs.Common.{arith}
use Rattle.exit_links.proofs.tests.grows.Goals as goal

pub resize-requires : goal.resize-requires
resize-requires c = λ x q there. let r = c.in_range.ensures x q there in (omega (arith, r.0, c.requires), omega (arith, r.1, c.requires))
