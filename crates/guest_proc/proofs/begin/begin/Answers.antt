use Rattle.std.proofs.Common.{◌≡◌, true, sym, ◌∙◌}
use Rattle.block_ledger.specs.Ledger.{is_live}
use Rattle.guest_proc.specs.Begun.{HasBegun}
use Rattle.guest_proc.proofs.Beginning.{begun-live, made-live, stop-live}
use Rattle.guest_proc.proofs.begin.begin.Goals as goal

pub returns-then-begin-clause-stop : goal.returns-then-begin-clause-stop
returns-then-begin-clause-stop g c =
    let live : is_live (g.B.Book.ledger c.args.book.now) c.args.cpu.now.pc ≡ true = sym c.begin.ensures.live ∙ c.if-begin.true in
    sym (stop-live c.args.limits.pool c.args.tool c.args.limits.max c.args.cpu.now c.args.mem.now (g.B.Book.ledger c.args.book.now) c.args.limits.some c.laws.ensures c.requires.fresh live)

pub returns-then-begin-clause-begun : goal.returns-then-begin-clause-begun
returns-then-begin-clause-begun g c =
    let live : is_live (g.B.Book.ledger c.args.book.now) c.args.cpu.now.pc ≡ true = sym c.begin.ensures.live ∙ c.if-begin.true in
    begun-live c.args.tool c.args.limits.max c.args.cpu.now.isa c.args.mem.now c.args.cpu.now.pc (g.B.Book.ledger c.args.book.now) (g.B.Book.ledger c.begin.new.self) c.args.limits.some c.requires.fresh live (c.begin.ensures.begun c.if-begin.true)

pub returns-then-begin-clause-made : goal.returns-then-begin-clause-made
returns-then-begin-clause-made g c =
    let live : is_live (g.B.Book.ledger c.args.book.now) c.args.cpu.now.pc ≡ true = sym c.begin.ensures.live ∙ c.if-begin.true in
    let b : HasBegun c.args.tool c.args.limits.max c.args.cpu.now.isa c.args.mem.now c.args.cpu.now.pc (g.B.Book.ledger c.args.book.now) (g.B.Book.ledger c.begin.new.self) = begun-live c.args.tool c.args.limits.max c.args.cpu.now.isa c.args.mem.now c.args.cpu.now.pc (g.B.Book.ledger c.args.book.now) (g.B.Book.ledger c.begin.new.self) c.args.limits.some c.requires.fresh live (c.begin.ensures.begun c.if-begin.true) in
    made-live c.args.tool c.args.limits.max c.args.cpu.now.isa c.args.mem.now c.args.cpu.now.pc (g.B.Book.ledger c.args.book.now) (g.B.Book.ledger c.begin.new.self) c.args.steps.now (g.M.Maker.taken c.args.maker.now) live b
