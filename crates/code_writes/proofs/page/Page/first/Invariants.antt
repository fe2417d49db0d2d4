use Rattle.std.proofs.Common.{take}
use Rattle.code_writes.specs.Block.{passes, FirstIn}
use Rattle.code_writes.proofs.page.Page.first.Given as goal

abbrev pub invariant-loop-block : goal.invariant-loop-block
invariant-loop-block l = FirstIn (passes l.s.start l.s.len l.from) (take l.block-index l.block-items) l.first
