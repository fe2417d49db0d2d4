use Rattle.std.proofs.Common.{arith}
use Rattle.plain_machine.specs.Memory.{starts_at}
use Rattle.guest_mem.proofs.ResizeLemmas.{rest_is}
use Rattle.guest_mem.proofs.mem.rest_without.Goals as goal

pub overflow_sub-result : goal.overflow_sub-result
overflow_sub-result c = omega (arith, rest_is (starts_at c.args.start) c.args.regions.now c.args.place c.index-regions-place.result c.args.total c.len.result c.requires.at c.index-regions-place.is c.requires.total c.len.ensures)

pub returns : goal.returns
returns c = omega (arith, rest_is (starts_at c.args.start) c.args.regions.now c.args.place c.index-regions-place.result c.args.total c.len.result c.requires.at c.index-regions-place.is c.requires.total c.len.ensures)
