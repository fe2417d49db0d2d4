use Rattle.code_writes.specs.Block.{without}
use Rattle.code_writes.proofs.Paging.{on_one, on_two}
use Rattle.std.proofs.Common.{refl}
use Rattle.code_writes.proofs.pages.Pages.cut.Goals as goal

pub returns-then-last-first : goal.returns-then-last-first
returns-then-last-first c = λ p.
    on_two c.args.block.addr c.args.block.len _ _ c.requires.some c.requires.short refl refl (without c.args.block.addr) _ _ p _ c.if-last-first.true (c.cut_from.ensures p) (c.cut_from-then-last-first.ensures p)

pub returns-else-last-first : goal.returns-else-last-first
returns-else-last-first c = λ p.
    on_one c.args.block.addr c.args.block.len _ _ c.requires.some c.requires.short refl refl (without c.args.block.addr) _ _ p c.if-last-first.false (c.cut_from.ensures p)
