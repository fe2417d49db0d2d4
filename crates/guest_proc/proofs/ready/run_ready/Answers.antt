use Rattle.std.proofs.Common.{◌≡◌, ◌-◌, Some, None, sym, ap, ◌∙◌, subst}
use Rattle.std.proofs.lemmas.Option.{same_Some}
use Rattle.std.proofs.lemmas.Result.{err_from_is_err_and}
use Rattle.plain_machine.specs.Calls.{called}
use Rattle.engine.specs.declared.block.Left.TheVariants as lefts
use Rattle.engine.specs.Standing.{CodeAfter, state}
use Rattle.block_ledger.specs.Ledger.{view, left_by, written}
use Rattle.block_ledger.specs.Traced.{after_call, direct, range_of}
use Rattle.guest_proc.specs.Fresh.{block_in}
use Rattle.guest_proc.specs.Process.{nothing, trace}
use Rattle.guest_proc.proofs.Put.{found-at}
use Rattle.guest_proc.proofs.Kept.{shares-left, shares-written}
use Rattle.guest_proc.proofs.Blocks.{calls-block, leave-small, mapped-put, kept-stored, no_io, on_err, own-stands, ran-block}
use Rattle.guest_proc.proofs.ready.run_ready.Goals as goal

pub run_block-requires-clause-begins : goal.run_block-requires-clause-begins
run_block-requires-clause-begins g c =
    let seen : view (g.B.Book.ledger c.args.book.now) c.args.cpu.now.pc ≡ Some c.in-Some.block.now = ap (view (g.B.Book.ledger c.args.book.now)) (sym c.requires.here) ∙ sym c.in-Some.ensures in
    let there : block_in c.args.report.now.tool c.args.max c.args.cpu.now.isa c.args.mem.now c.args.cpu.now.pc ≡ Some c.in-Some.block.now = c.requires.fresh c.args.cpu.now.pc c.in-Some.block.now seen in
    sym (found-at c.args.report.now.tool c.args.max c.args.cpu.now.isa c.args.mem.now c.args.cpu.now.pc c.in-Some.block.now c.requires.some there).at

pub run_block-requires-clause-fresh : goal.run_block-requires-clause-fresh
run_block-requires-clause-fresh g c =
    let seen : view (g.B.Book.ledger c.args.book.now) c.args.cpu.now.pc ≡ Some c.in-Some.block.now = ap (view (g.B.Book.ledger c.args.book.now)) (sym c.requires.here) ∙ sym c.in-Some.ensures in
    let there : block_in c.args.report.now.tool c.args.max c.args.cpu.now.isa c.args.mem.now c.args.cpu.now.pc ≡ Some c.in-Some.block.now = c.requires.fresh c.args.cpu.now.pc c.in-Some.block.now seen in
    own-stands c.args.report.now.tool c.args.max c.args.cpu.now.isa c.args.mem.now c.args.cpu.now.pc c.in-Some.block.now c.requires.some c.laws.ensures there

pub returns-in_err-left-clause-wants : goal.returns-in_err-left-clause-wants
returns-in_err-left-clause-wants g c =
    let seen : view (g.B.Book.ledger c.args.book.now) c.args.cpu.now.pc ≡ Some c.in-Some.block.now = ap (view (g.B.Book.ledger c.args.book.now)) (sym c.requires.here) ∙ sym c.in-Some.ensures in
    let there : block_in c.args.report.now.tool c.args.max c.args.cpu.now.isa c.args.mem.now c.args.cpu.now.pc ≡ Some c.in-Some.block.now = c.requires.fresh c.args.cpu.now.pc c.in-Some.block.now seen in
    let e = err_from_is_err_and c.from_residual.result c.from_residual.ensures.1 in
    on_err c.from_residual.result e.0 _ e.1 (λ io. record {
      block = c.in-Some.block.now;
      ready = seen;
      words = c.args.fuel.now - c.run_block.new.fuel;
      state = state c.run_block.new.cpu c.run_block.new.mem io;
      report = c.run_block.new.report;
      wants = c.in_err-left.ensures.wants io;
    })

pub leave-requires : goal.leave-requires
leave-requires g c =
    let seen : view (g.B.Book.ledger c.args.book.now) c.args.cpu.now.pc ≡ Some c.in-Some.block.now = ap (view (g.B.Book.ledger c.args.book.now)) (sym c.requires.here) ∙ sym c.in-Some.ensures in
    let there : block_in c.args.report.now.tool c.args.max c.args.cpu.now.isa c.args.mem.now c.args.cpu.now.pc ≡ Some c.in-Some.block.now = c.requires.fresh c.args.cpu.now.pc c.in-Some.block.now seen in
    leave-small c.args.report.now.tool c.args.max c.args.cpu.now.isa c.args.mem.now c.args.cpu.now.pc c.in-Exit.e c.in-Some.block.now c.exits.result.now c.direct-exit.result c.requires.some there c.exits.ensures c.direct-exit.ensures

pub returns-in-Exit-clause-ran : goal.returns-in-Exit-clause-ran
returns-in-Exit-clause-ran g c = λ scheme io led block tool_is max_is is begun.
    let seen : view (g.B.Book.ledger c.args.book.now) c.args.cpu.now.pc ≡ Some c.in-Some.block.now = ap (view (g.B.Book.ledger c.args.book.now)) (sym c.requires.here) ∙ sym c.in-Some.ensures in
    let there : block_in c.args.report.now.tool c.args.max c.args.cpu.now.isa c.args.mem.now c.args.cpu.now.pc ≡ Some c.in-Some.block.now = c.requires.fresh c.args.cpu.now.pc c.in-Some.block.now seen in
    ran-block scheme c.args.max c.in-Some.block.now block c.args.fuel.now c.run_block.new.fuel c.args.cpu.now c.run_block.new.cpu c.args.mem.now c.run_block.new.mem io c.in_ok-left.left (lefts.Exit c.in-Exit.e) c.args.report.now c.run_block.new.report led
    (g.B.Book.ledger c.args.book.now) (g.B.Book.ledger c.leave.new.self) (nothing) c.requires.some tool_is max_is c.laws.ensures there (same_Some c.in-Some.block.now block (sym seen ∙ is)) begun
    (λ k i. c.in_ok-left.ensures.runs k i) c.in-Exit.is c.in_ok-left.ensures.report
    (λ w maps units requests. ap (λ l. trace l maps units requests) (sym (c.leave.ensures ∙ ap (λ e. left_by e (g.B.Book.ledger c.args.book.now)) (c.direct-exit.ensures ∙ ap (direct c.in-Exit.e) c.exits.ensures))))

pub returns-in-Touched-clause-ran : goal.returns-in-Touched-clause-ran
returns-in-Touched-clause-ran g c = λ scheme io led block tool_is max_is is begun.
    let seen : view (g.B.Book.ledger c.args.book.now) c.args.cpu.now.pc ≡ Some c.in-Some.block.now = ap (view (g.B.Book.ledger c.args.book.now)) (sym c.requires.here) ∙ sym c.in-Some.ensures in
    let there : block_in c.args.report.now.tool c.args.max c.args.cpu.now.isa c.args.mem.now c.args.cpu.now.pc ≡ Some c.in-Some.block.now = c.requires.fresh c.args.cpu.now.pc c.in-Some.block.now seen in
    ran-block scheme c.args.max c.in-Some.block.now block c.args.fuel.now c.run_block.new.fuel c.args.cpu.now c.run_block.new.cpu c.args.mem.now c.run_block.new.mem io c.in_ok-left.left (lefts.Touched c.in-Touched.span) c.args.report.now c.run_block.new.report led
    (g.B.Book.ledger c.args.book.now) (g.B.Book.ledger c.write.new.self) (nothing) c.requires.some tool_is max_is c.laws.ensures there (same_Some c.in-Some.block.now block (sym seen ∙ is)) begun
    (λ k i. c.in_ok-left.ensures.runs k i) c.in-Touched.is c.in_ok-left.ensures.report
    (λ w maps units requests. ap (λ l. trace l maps units requests) (sym (c.write.ensures ∙ ap (written (range_of c.in-Touched.span)) c.leave-in-Touched.ensures)))

pub returns-in-Fuel-clause-ran : goal.returns-in-Fuel-clause-ran
returns-in-Fuel-clause-ran g c = λ scheme io led block tool_is max_is is begun.
    let seen : view (g.B.Book.ledger c.args.book.now) c.args.cpu.now.pc ≡ Some c.in-Some.block.now = ap (view (g.B.Book.ledger c.args.book.now)) (sym c.requires.here) ∙ sym c.in-Some.ensures in
    let there : block_in c.args.report.now.tool c.args.max c.args.cpu.now.isa c.args.mem.now c.args.cpu.now.pc ≡ Some c.in-Some.block.now = c.requires.fresh c.args.cpu.now.pc c.in-Some.block.now seen in
    ran-block scheme c.args.max c.in-Some.block.now block c.args.fuel.now c.run_block.new.fuel c.args.cpu.now c.run_block.new.cpu c.args.mem.now c.run_block.new.mem io c.in_ok-left.left (lefts.Fuel) c.args.report.now c.run_block.new.report led
    (g.B.Book.ledger c.args.book.now) (g.B.Book.ledger c.leave-in-Fuel.new.self) (nothing) c.requires.some tool_is max_is c.laws.ensures there (same_Some c.in-Some.block.now block (sym seen ∙ is)) begun
    (λ k i. c.in_ok-left.ensures.runs k i) c.in-Fuel.is c.in_ok-left.ensures.report
    (λ w maps units requests. ap (λ l. trace l maps units requests) (sym (c.leave-in-Fuel.ensures)))

pub returns-in-Fault-clause-ran : goal.returns-in-Fault-clause-ran
returns-in-Fault-clause-ran g c = λ scheme io led block tool_is max_is is begun.
    let seen : view (g.B.Book.ledger c.args.book.now) c.args.cpu.now.pc ≡ Some c.in-Some.block.now = ap (view (g.B.Book.ledger c.args.book.now)) (sym c.requires.here) ∙ sym c.in-Some.ensures in
    let there : block_in c.args.report.now.tool c.args.max c.args.cpu.now.isa c.args.mem.now c.args.cpu.now.pc ≡ Some c.in-Some.block.now = c.requires.fresh c.args.cpu.now.pc c.in-Some.block.now seen in
    ran-block scheme c.args.max c.in-Some.block.now block c.args.fuel.now c.run_block.new.fuel c.args.cpu.now c.run_block.new.cpu c.args.mem.now c.run_block.new.mem io c.in_ok-left.left (lefts.Fault c.in-Fault.kind) c.args.report.now c.run_block.new.report led
    (g.B.Book.ledger c.args.book.now) (g.B.Book.ledger c.leave-in-Fault.new.self) (nothing) c.requires.some tool_is max_is c.laws.ensures there (same_Some c.in-Some.block.now block (sym seen ∙ is)) begun
    (λ k i. c.in_ok-left.ensures.runs k i) c.in-Fault.is c.in_ok-left.ensures.report
    (λ w maps units requests. ap (λ l. trace l maps units requests) (sym (c.leave-in-Fault.ensures)))

pub returns-in-Asked-clause-ran : goal.returns-in-Asked-clause-ran
returns-in-Asked-clause-ran g c = λ scheme io led block tool_is max_is is begun.
    let seen : view (g.B.Book.ledger c.args.book.now) c.args.cpu.now.pc ≡ Some c.in-Some.block.now = ap (view (g.B.Book.ledger c.args.book.now)) (sym c.requires.here) ∙ sym c.in-Some.ensures in
    let there : block_in c.args.report.now.tool c.args.max c.args.cpu.now.isa c.args.mem.now c.args.cpu.now.pc ≡ Some c.in-Some.block.now = c.requires.fresh c.args.cpu.now.pc c.in-Some.block.now seen in
    ran-block scheme c.args.max c.in-Some.block.now block c.args.fuel.now c.run_block.new.fuel c.args.cpu.now c.run_block.new.cpu c.args.mem.now c.run_block.new.mem io c.in_ok-left.left (lefts.Asked) c.args.report.now c.run_block.new.report led
    (g.B.Book.ledger c.args.book.now) (g.B.Book.ledger c.leave-in-Asked.new.self) (λ w. after_call w scheme (called c.run_block.new.cpu c.run_block.new.mem io)) c.requires.some tool_is max_is c.laws.ensures there (same_Some c.in-Some.block.now block (sym seen ∙ is)) begun
    (λ k i. c.in_ok-left.ensures.runs k i) c.in-Asked.is c.in_ok-left.ensures.report
    (λ w maps units requests. ap (λ l. after_call w scheme (called c.run_block.new.cpu c.run_block.new.mem io) (trace l maps units requests)) (sym c.leave-in-Asked.ensures))

pub returns-in-Exit-clause-tool : goal.returns-in-Exit-clause-tool
returns-in-Exit-clause-tool g c =
    ap (λ r. r.tool) (c.in_ok-left.ensures.report no_io)

pub returns-in-Touched-clause-tool : goal.returns-in-Touched-clause-tool
returns-in-Touched-clause-tool g c =
    ap (λ r. r.tool) (c.in_ok-left.ensures.report no_io)

pub returns-in-Fuel-clause-tool : goal.returns-in-Fuel-clause-tool
returns-in-Fuel-clause-tool g c =
    ap (λ r. r.tool) (c.in_ok-left.ensures.report no_io)

pub returns-in-Fault-clause-tool : goal.returns-in-Fault-clause-tool
returns-in-Fault-clause-tool g c =
    ap (λ r. r.tool) (c.in_ok-left.ensures.report no_io)

pub returns-in-Asked-clause-tool : goal.returns-in-Asked-clause-tool
returns-in-Asked-clause-tool g c =
    ap (λ r. r.tool) (c.in_ok-left.ensures.report no_io)

pub returns-in-Touched-clause-fresh : goal.returns-in-Touched-clause-fresh
returns-in-Touched-clause-fresh g c =
    let stored : CodeAfter (lefts.Touched c.in-Touched.span) c.args.mem.now c.run_block.new.mem = subst (λ l. CodeAfter l c.args.mem.now c.run_block.new.mem) c.in-Touched.is c.in_ok-left.ensures.code in
    kept-stored c.args.report.now.tool c.args.max c.args.mem.now c.run_block.new.mem c.args.cpu.now.isa c.run_block.new.cpu.isa c.in-Touched.span (g.B.Book.ledger c.args.book.now) (g.B.Book.ledger c.write.new.self) c.requires.some stored c.in_ok-left.ensures.isa
    (c.write.ensures ∙ ap (written (range_of c.in-Touched.span)) c.leave-in-Touched.ensures) c.requires.fresh

pub returns-in-Touched-clause-mapped : goal.returns-in-Touched-clause-mapped
returns-in-Touched-clause-mapped g c =
    let stored : CodeAfter (lefts.Touched c.in-Touched.span) c.args.mem.now c.run_block.new.mem = subst (λ l. CodeAfter l c.args.mem.now c.run_block.new.mem) c.in-Touched.is c.in_ok-left.ensures.code in
    mapped-put c.args.mem.now c.run_block.new.mem c.in-Touched.span (g.B.Book.ledger c.args.book.now) (g.B.Book.ledger c.write.new.self) stored (c.write.ensures ∙ ap (written (range_of c.in-Touched.span)) c.leave-in-Touched.ensures) c.requires.mapped

pub returns-in_err-left-clause-tool : goal.returns-in_err-left-clause-tool
returns-in_err-left-clause-tool g c = ap (λ r. r.tool) (c.in_err-left.ensures.wants no_io).counted

pub returns-in-Asked-clause-leaves : goal.returns-in-Asked-clause-leaves
returns-in-Asked-clause-leaves g c = λ io.
    let seen : view (g.B.Book.ledger c.args.book.now) c.args.cpu.now.pc ≡ Some c.in-Some.block.now = ap (view (g.B.Book.ledger c.args.book.now)) (sym c.requires.here) ∙ sym c.in-Some.ensures in
    let there : block_in c.args.report.now.tool c.args.max c.args.cpu.now.isa c.args.mem.now c.args.cpu.now.pc ≡ Some c.in-Some.block.now = c.requires.fresh c.args.cpu.now.pc c.in-Some.block.now seen in
    calls-block c.args.max c.in-Some.block.now c.args.fuel.now c.run_block.new.fuel c.args.cpu.now c.run_block.new.cpu c.args.mem.now c.run_block.new.mem io c.in_ok-left.left c.args.report.now (g.B.Book.ledger c.args.book.now) c.requires.some c.laws.ensures there seen
    (λ k i. c.in_ok-left.ensures.runs k i) c.in-Asked.is

pub returns-in-Exit-clause-shares : goal.returns-in-Exit-clause-shares
returns-in-Exit-clause-shares g c = shares-left c.direct-exit.result (g.B.Book.ledger c.args.book.now) (g.B.Book.ledger c.leave.new.self) c.leave.ensures

pub returns-in-Fuel-clause-shares : goal.returns-in-Fuel-clause-shares
returns-in-Fuel-clause-shares g c = shares-left (Some 0) (g.B.Book.ledger c.args.book.now) (g.B.Book.ledger c.leave-in-Fuel.new.self) c.leave-in-Fuel.ensures

pub returns-in-Fault-clause-shares : goal.returns-in-Fault-clause-shares
returns-in-Fault-clause-shares g c = shares-left None (g.B.Book.ledger c.args.book.now) (g.B.Book.ledger c.leave-in-Fault.new.self) c.leave-in-Fault.ensures

pub returns-in-Asked-clause-shares : goal.returns-in-Asked-clause-shares
returns-in-Asked-clause-shares g c = shares-left None (g.B.Book.ledger c.args.book.now) (g.B.Book.ledger c.leave-in-Asked.new.self) c.leave-in-Asked.ensures

pub returns-in-Touched-clause-shares : goal.returns-in-Touched-clause-shares
returns-in-Touched-clause-shares g c = shares-written c.in-Touched.span (g.B.Book.ledger c.args.book.now) (g.B.Book.ledger c.write.new.self) (c.write.ensures ∙ ap (written (range_of c.in-Touched.span)) c.leave-in-Touched.ensures)
