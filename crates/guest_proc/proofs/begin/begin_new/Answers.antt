use Rattle.guest_proc.proofs.Beginning.{absent-new, begun-new, made-new}
use Rattle.guest_proc.proofs.One.{on_ok}
use Rattle.guest_proc.proofs.begin.begin_new.Goals as goal

pub begin_built-requires-clause-absent : goal.begin_built-requires-clause-absent
begin_built-requires-clause-absent g c =
    absent-new c.args.tool c.args.limits.max c.args.cpu.now.isa c.args.mem.now c.args.cpu.now.pc (g.B.Book.ledger c.args.book.now) c.in_ok-block.block c.args.limits.some c.in_ok-block.ensures.fresh c.requires.absent

pub begin_built-requires-clause-short : goal.begin_built-requires-clause-short
begin_built-requires-clause-short g c = c.in_ok-block.ensures.short

pub returns-clause-begun : goal.returns-clause-begun
returns-clause-begun g c =
    on_ok c.begin_built.result _ _ (λ is. begun-new c.args.tool c.args.limits.max c.args.cpu.now.isa c.args.mem.now c.args.cpu.now.pc (g.B.Book.ledger c.args.book.now) (g.B.Book.ledger c.begin_built.new.self) c.in_ok-block.block c.args.limits.some c.in_ok-block.ensures.fresh c.requires.absent is) c.begin_built.ensures.ok

pub returns-clause-made : goal.returns-clause-made
returns-clause-made g c =
    let absent = absent-new c.args.tool c.args.limits.max c.args.cpu.now.isa c.args.mem.now c.args.cpu.now.pc (g.B.Book.ledger c.args.book.now) c.in_ok-block.block c.args.limits.some c.in_ok-block.ensures.fresh c.requires.absent in
    on_ok c.begin_built.result _ _ (λ is. made-new c.args.cpu.now.pc c.args.steps.now c.block_at.new.steps (g.M.Maker.taken c.args.maker.now) (g.M.Maker.taken c.block_at.new.maker) (g.B.Book.ledger c.args.book.now) (g.B.Book.ledger c.begin_built.new.self) c.in_ok-block.block absent is c.in_ok-block.ensures.made) c.begin_built.ensures.ok
