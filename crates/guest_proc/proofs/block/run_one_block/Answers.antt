use Rattle.std.proofs.Common.{◌≡◌, Some, None, refl, sym, ap, ◌∙◌, subst, inl, inr}
use Rattle.std.specs.Prelude.{IfOk}
use Rattle.guest_proc.specs.declared.stop.Ran.TheVariants as ran
use Rattle.guest_proc.specs.Begun.{HasBegun}
use Rattle.plain_machine.specs.Memory.{fetched}
use Rattle.guest_proc.specs.Kept.{IsReady, Keeps, process_of, scheme_of}
use Rattle.guest_proc.specs.Process.{CallsSystem, LeavesBy, process, stop_of}
use Rattle.guest_proc.proofs.One.{begun-then, call-advances, stop-first, stops-well, same-then, AfterBlock, AfterCall, after-block, after-call, any_err, begun-fresh, calls-so, if_ok, if_then, lacks-so, made-so}
use Rattle.guest_proc.proofs.More.{keeps-all}
use Rattle.guest_proc.proofs.block.run_one_block.Goals as goal

pub run_ready-requires-clause-fresh : goal.run_ready-requires-clause-fresh
run_ready-requires-clause-fresh g c =
    let b : HasBegun c.args.at.now.report.tool c.args.limits.max c.args.at.now.cpu.isa c.args.at.now.mem c.args.at.now.cpu.pc (g.B.Book.ledger c.args.book.now) (g.B.Book.ledger c.begin.new.book) = begun-then c.tool-tool.result c.args.at.now.report.tool c.args.limits.max c.args.at.now.cpu.isa c.args.at.now.mem c.args.at.now.cpu.pc (g.B.Book.ledger c.args.book.now) (g.B.Book.ledger c.begin.new.book) c.in_ok-before.before c.tool-tool.ensures c.in_default.is c.in_ok-before.ensures.begun in
    begun-fresh c.args.at.now.report.tool c.args.limits.max c.args.at.now.cpu.isa c.args.at.now.mem c.args.at.now.cpu.pc (g.B.Book.ledger c.args.book.now) (g.B.Book.ledger c.begin.new.book) b c.requires.ready.fresh

pub returns-in_err-run_ready-clause-wants : goal.returns-in_err-run_ready-clause-wants
returns-in_err-run_ready-clause-wants g c =
    let none : stop_of c.args.limits.pool (process_of c.args.at.now (g.B.Book.ledger c.args.book.now)) ≡ None = stop-first c.args.limits.pool (process_of c.args.at.now (g.B.Book.ledger c.args.book.now)) c.in_ok-before.before c.if-at-eq0.false c.in_ok-before.ensures.stop ∙ c.in_default.is in
    let b : HasBegun c.args.at.now.report.tool c.args.limits.max c.args.at.now.cpu.isa c.args.at.now.mem c.args.at.now.cpu.pc (g.B.Book.ledger c.args.book.now) (g.B.Book.ledger c.begin.new.book) = begun-then c.tool-tool.result c.args.at.now.report.tool c.args.limits.max c.args.at.now.cpu.isa c.args.at.now.mem c.args.at.now.cpu.pc (g.B.Book.ledger c.args.book.now) (g.B.Book.ledger c.begin.new.book) c.in_ok-before.before c.tool-tool.ensures c.in_default.is c.in_ok-before.ensures.begun in
    any_err c.from_residual-in_err-run_ready.result _ (lacks-so (scheme_of c.args.at.now c.args.limits) c.args.at.now.cpu c.args.at.now.mem c.args.at.now.io c.args.at.now.fuel c.args.at.now.report (g.B.Book.ledger c.args.book.now) (g.B.Book.ledger c.begin.new.book) c.requires.ready refl none b (c.in_err-run_ready.ensures.wants c.args.at.now.io))

pub returns-in-On-clause-ran : goal.returns-in-On-clause-ran
returns-in-On-clause-ran g c =
    let none : stop_of c.args.limits.pool (process_of c.args.at.now (g.B.Book.ledger c.args.book.now)) ≡ None = stop-first c.args.limits.pool (process_of c.args.at.now (g.B.Book.ledger c.args.book.now)) c.in_ok-before.before c.if-at-eq0.false c.in_ok-before.ensures.stop ∙ c.in_default.is in
    let b : HasBegun c.args.at.now.report.tool c.args.limits.max c.args.at.now.cpu.isa c.args.at.now.mem c.args.at.now.cpu.pc (g.B.Book.ledger c.args.book.now) (g.B.Book.ledger c.begin.new.book) = begun-then c.tool-tool.result c.args.at.now.report.tool c.args.limits.max c.args.at.now.cpu.isa c.args.at.now.mem c.args.at.now.cpu.pc (g.B.Book.ledger c.args.book.now) (g.B.Book.ledger c.begin.new.book) c.in_ok-before.before c.tool-tool.ensures c.in_default.is c.in_ok-before.ensures.begun in
    let after : AfterBlock (scheme_of c.args.at.now c.args.limits) (process_of c.args.at.now (g.B.Book.ledger c.args.book.now)) (process c.run_ready.new.cpu c.run_ready.new.mem c.args.at.now.io c.run_ready.new.fuel c.run_ready.new.report (g.B.Book.ledger c.run_ready.new.book)) c.in_ok-run_ready.field-0 =
    after-block (scheme_of c.args.at.now c.args.limits) c.args.at.now.cpu c.run_ready.new.cpu c.args.at.now.mem c.run_ready.new.mem c.args.at.now.io c.args.at.now.fuel c.run_ready.new.fuel c.args.at.now.report c.run_ready.new.report (g.B.Book.ledger c.args.book.now) (g.B.Book.ledger c.begin.new.book) (g.B.Book.ledger c.run_ready.new.book) c.in_ok-run_ready.field-0 c.requires.ready refl none b
    (λ s i l f. c.in_ok-run_ready.ensures.ran s i l f) c.in_ok-run_ready.ensures.fresh c.in_ok-run_ready.ensures.mapped c.in_ok-run_ready.ensures.shares c.in_ok-run_ready.ensures.regions c.in_ok-run_ready.ensures.segments c.in_ok-run_ready.ensures.counts c.in_ok-run_ready.ensures.aligned c.in_ok-run_ready.ensures.less c.in_ok-run_ready.ensures.small c.in_ok-run_ready.ensures.tool c.in_ok-run_ready.ensures.isa in
    let so : AfterBlock (scheme_of c.args.at.now c.args.limits) (process_of c.args.at.now (g.B.Book.ledger c.args.book.now)) (process c.run_ready.new.cpu c.run_ready.new.mem c.args.at.now.io c.run_ready.new.fuel c.run_ready.new.report (g.B.Book.ledger c.run_ready.new.book)) (ran.On) = subst (λ r. AfterBlock (scheme_of c.args.at.now c.args.limits) (process_of c.args.at.now (g.B.Book.ledger c.args.book.now)) (process c.run_ready.new.cpu c.run_ready.new.mem c.args.at.now.io c.run_ready.new.fuel c.run_ready.new.report (g.B.Book.ledger c.run_ready.new.book)) r) c.in-On.is after in
    (so.one, so.came)

pub returns-in-On-clause-ready : goal.returns-in-On-clause-ready
returns-in-On-clause-ready g c =
    let none : stop_of c.args.limits.pool (process_of c.args.at.now (g.B.Book.ledger c.args.book.now)) ≡ None = stop-first c.args.limits.pool (process_of c.args.at.now (g.B.Book.ledger c.args.book.now)) c.in_ok-before.before c.if-at-eq0.false c.in_ok-before.ensures.stop ∙ c.in_default.is in
    let b : HasBegun c.args.at.now.report.tool c.args.limits.max c.args.at.now.cpu.isa c.args.at.now.mem c.args.at.now.cpu.pc (g.B.Book.ledger c.args.book.now) (g.B.Book.ledger c.begin.new.book) = begun-then c.tool-tool.result c.args.at.now.report.tool c.args.limits.max c.args.at.now.cpu.isa c.args.at.now.mem c.args.at.now.cpu.pc (g.B.Book.ledger c.args.book.now) (g.B.Book.ledger c.begin.new.book) c.in_ok-before.before c.tool-tool.ensures c.in_default.is c.in_ok-before.ensures.begun in
    let after : AfterBlock (scheme_of c.args.at.now c.args.limits) (process_of c.args.at.now (g.B.Book.ledger c.args.book.now)) (process c.run_ready.new.cpu c.run_ready.new.mem c.args.at.now.io c.run_ready.new.fuel c.run_ready.new.report (g.B.Book.ledger c.run_ready.new.book)) c.in_ok-run_ready.field-0 =
    after-block (scheme_of c.args.at.now c.args.limits) c.args.at.now.cpu c.run_ready.new.cpu c.args.at.now.mem c.run_ready.new.mem c.args.at.now.io c.args.at.now.fuel c.run_ready.new.fuel c.args.at.now.report c.run_ready.new.report (g.B.Book.ledger c.args.book.now) (g.B.Book.ledger c.begin.new.book) (g.B.Book.ledger c.run_ready.new.book) c.in_ok-run_ready.field-0 c.requires.ready refl none b
    (λ s i l f. c.in_ok-run_ready.ensures.ran s i l f) c.in_ok-run_ready.ensures.fresh c.in_ok-run_ready.ensures.mapped c.in_ok-run_ready.ensures.shares c.in_ok-run_ready.ensures.regions c.in_ok-run_ready.ensures.segments c.in_ok-run_ready.ensures.counts c.in_ok-run_ready.ensures.aligned c.in_ok-run_ready.ensures.less c.in_ok-run_ready.ensures.small c.in_ok-run_ready.ensures.tool c.in_ok-run_ready.ensures.isa in
    after.ready

pub returns-in-Ended-clause-ran : goal.returns-in-Ended-clause-ran
returns-in-Ended-clause-ran g c =
    let none : stop_of c.args.limits.pool (process_of c.args.at.now (g.B.Book.ledger c.args.book.now)) ≡ None = stop-first c.args.limits.pool (process_of c.args.at.now (g.B.Book.ledger c.args.book.now)) c.in_ok-before.before c.if-at-eq0.false c.in_ok-before.ensures.stop ∙ c.in_default.is in
    let b : HasBegun c.args.at.now.report.tool c.args.limits.max c.args.at.now.cpu.isa c.args.at.now.mem c.args.at.now.cpu.pc (g.B.Book.ledger c.args.book.now) (g.B.Book.ledger c.begin.new.book) = begun-then c.tool-tool.result c.args.at.now.report.tool c.args.limits.max c.args.at.now.cpu.isa c.args.at.now.mem c.args.at.now.cpu.pc (g.B.Book.ledger c.args.book.now) (g.B.Book.ledger c.begin.new.book) c.in_ok-before.before c.tool-tool.ensures c.in_default.is c.in_ok-before.ensures.begun in
    let after : AfterBlock (scheme_of c.args.at.now c.args.limits) (process_of c.args.at.now (g.B.Book.ledger c.args.book.now)) (process c.run_ready.new.cpu c.run_ready.new.mem c.args.at.now.io c.run_ready.new.fuel c.run_ready.new.report (g.B.Book.ledger c.run_ready.new.book)) c.in_ok-run_ready.field-0 =
    after-block (scheme_of c.args.at.now c.args.limits) c.args.at.now.cpu c.run_ready.new.cpu c.args.at.now.mem c.run_ready.new.mem c.args.at.now.io c.args.at.now.fuel c.run_ready.new.fuel c.args.at.now.report c.run_ready.new.report (g.B.Book.ledger c.args.book.now) (g.B.Book.ledger c.begin.new.book) (g.B.Book.ledger c.run_ready.new.book) c.in_ok-run_ready.field-0 c.requires.ready refl none b
    (λ s i l f. c.in_ok-run_ready.ensures.ran s i l f) c.in_ok-run_ready.ensures.fresh c.in_ok-run_ready.ensures.mapped c.in_ok-run_ready.ensures.shares c.in_ok-run_ready.ensures.regions c.in_ok-run_ready.ensures.segments c.in_ok-run_ready.ensures.counts c.in_ok-run_ready.ensures.aligned c.in_ok-run_ready.ensures.less c.in_ok-run_ready.ensures.small c.in_ok-run_ready.ensures.tool c.in_ok-run_ready.ensures.isa in
    let so : AfterBlock (scheme_of c.args.at.now c.args.limits) (process_of c.args.at.now (g.B.Book.ledger c.args.book.now)) (process c.run_ready.new.cpu c.run_ready.new.mem c.args.at.now.io c.run_ready.new.fuel c.run_ready.new.report (g.B.Book.ledger c.run_ready.new.book)) (ran.Ended c.in-Ended.end) = subst (λ r. AfterBlock (scheme_of c.args.at.now c.args.limits) (process_of c.args.at.now (g.B.Book.ledger c.args.book.now)) (process c.run_ready.new.cpu c.run_ready.new.mem c.args.at.now.io c.run_ready.new.fuel c.run_ready.new.report (g.B.Book.ledger c.run_ready.new.book)) r) c.in-Ended.is after in
    inr (so.one, so.came)

pub returns-in-Ended-clause-ready : goal.returns-in-Ended-clause-ready
returns-in-Ended-clause-ready g c =
    let none : stop_of c.args.limits.pool (process_of c.args.at.now (g.B.Book.ledger c.args.book.now)) ≡ None = stop-first c.args.limits.pool (process_of c.args.at.now (g.B.Book.ledger c.args.book.now)) c.in_ok-before.before c.if-at-eq0.false c.in_ok-before.ensures.stop ∙ c.in_default.is in
    let b : HasBegun c.args.at.now.report.tool c.args.limits.max c.args.at.now.cpu.isa c.args.at.now.mem c.args.at.now.cpu.pc (g.B.Book.ledger c.args.book.now) (g.B.Book.ledger c.begin.new.book) = begun-then c.tool-tool.result c.args.at.now.report.tool c.args.limits.max c.args.at.now.cpu.isa c.args.at.now.mem c.args.at.now.cpu.pc (g.B.Book.ledger c.args.book.now) (g.B.Book.ledger c.begin.new.book) c.in_ok-before.before c.tool-tool.ensures c.in_default.is c.in_ok-before.ensures.begun in
    let after : AfterBlock (scheme_of c.args.at.now c.args.limits) (process_of c.args.at.now (g.B.Book.ledger c.args.book.now)) (process c.run_ready.new.cpu c.run_ready.new.mem c.args.at.now.io c.run_ready.new.fuel c.run_ready.new.report (g.B.Book.ledger c.run_ready.new.book)) c.in_ok-run_ready.field-0 =
    after-block (scheme_of c.args.at.now c.args.limits) c.args.at.now.cpu c.run_ready.new.cpu c.args.at.now.mem c.run_ready.new.mem c.args.at.now.io c.args.at.now.fuel c.run_ready.new.fuel c.args.at.now.report c.run_ready.new.report (g.B.Book.ledger c.args.book.now) (g.B.Book.ledger c.begin.new.book) (g.B.Book.ledger c.run_ready.new.book) c.in_ok-run_ready.field-0 c.requires.ready refl none b
    (λ s i l f. c.in_ok-run_ready.ensures.ran s i l f) c.in_ok-run_ready.ensures.fresh c.in_ok-run_ready.ensures.mapped c.in_ok-run_ready.ensures.shares c.in_ok-run_ready.ensures.regions c.in_ok-run_ready.ensures.segments c.in_ok-run_ready.ensures.counts c.in_ok-run_ready.ensures.aligned c.in_ok-run_ready.ensures.less c.in_ok-run_ready.ensures.small c.in_ok-run_ready.ensures.tool c.in_ok-run_ready.ensures.isa in
    after.ready

pub returns-in-Asks-clause-ran : goal.returns-in-Asks-clause-ran
returns-in-Asks-clause-ran g c =
    let none : stop_of c.args.limits.pool (process_of c.args.at.now (g.B.Book.ledger c.args.book.now)) ≡ None = stop-first c.args.limits.pool (process_of c.args.at.now (g.B.Book.ledger c.args.book.now)) c.in_ok-before.before c.if-at-eq0.false c.in_ok-before.ensures.stop ∙ c.in_default.is in
    let b : HasBegun c.args.at.now.report.tool c.args.limits.max c.args.at.now.cpu.isa c.args.at.now.mem c.args.at.now.cpu.pc (g.B.Book.ledger c.args.book.now) (g.B.Book.ledger c.begin.new.book) = begun-then c.tool-tool.result c.args.at.now.report.tool c.args.limits.max c.args.at.now.cpu.isa c.args.at.now.mem c.args.at.now.cpu.pc (g.B.Book.ledger c.args.book.now) (g.B.Book.ledger c.begin.new.book) c.in_ok-before.before c.tool-tool.ensures c.in_default.is c.in_ok-before.ensures.begun in
    let after : AfterBlock (scheme_of c.args.at.now c.args.limits) (process_of c.args.at.now (g.B.Book.ledger c.args.book.now)) (process c.run_ready.new.cpu c.run_ready.new.mem c.args.at.now.io c.run_ready.new.fuel c.run_ready.new.report (g.B.Book.ledger c.run_ready.new.book)) c.in_ok-run_ready.field-0 =
    after-block (scheme_of c.args.at.now c.args.limits) c.args.at.now.cpu c.run_ready.new.cpu c.args.at.now.mem c.run_ready.new.mem c.args.at.now.io c.args.at.now.fuel c.run_ready.new.fuel c.args.at.now.report c.run_ready.new.report (g.B.Book.ledger c.args.book.now) (g.B.Book.ledger c.begin.new.book) (g.B.Book.ledger c.run_ready.new.book) c.in_ok-run_ready.field-0 c.requires.ready refl none b
    (λ s i l f. c.in_ok-run_ready.ensures.ran s i l f) c.in_ok-run_ready.ensures.fresh c.in_ok-run_ready.ensures.mapped c.in_ok-run_ready.ensures.shares c.in_ok-run_ready.ensures.regions c.in_ok-run_ready.ensures.segments c.in_ok-run_ready.ensures.counts c.in_ok-run_ready.ensures.aligned c.in_ok-run_ready.ensures.less c.in_ok-run_ready.ensures.small c.in_ok-run_ready.ensures.tool c.in_ok-run_ready.ensures.isa in
    let so : AfterBlock (scheme_of c.args.at.now c.args.limits) (process_of c.args.at.now (g.B.Book.ledger c.args.book.now)) (process c.run_ready.new.cpu c.run_ready.new.mem c.args.at.now.io c.run_ready.new.fuel c.run_ready.new.report (g.B.Book.ledger c.run_ready.new.book)) (ran.Asks) = subst (λ r. AfterBlock (scheme_of c.args.at.now c.args.limits) (process_of c.args.at.now (g.B.Book.ledger c.args.book.now)) (process c.run_ready.new.cpu c.run_ready.new.mem c.args.at.now.io c.run_ready.new.fuel c.run_ready.new.report (g.B.Book.ledger c.run_ready.new.book)) r) c.in-Asks.is after in
    let done : IfOk c.call.result (λ stop. AfterCall (scheme_of c.args.at.now c.args.limits) (process_of c.args.at.now (g.B.Book.ledger c.args.book.now)) (process c.call.new.cpu c.call.new.mem c.call.new.io c.run_ready.new.fuel c.run_ready.new.report (g.B.Book.ledger c.call.new.book)) stop) = if_ok c.call.result _ _ (λ stop d. after-call (scheme_of c.args.at.now c.args.limits) (process_of c.args.at.now (g.B.Book.ledger c.args.book.now)) c.run_ready.new.cpu c.call.new.cpu c.run_ready.new.mem c.call.new.mem c.args.at.now.io c.call.new.io c.run_ready.new.fuel c.run_ready.new.report (g.B.Book.ledger c.run_ready.new.book) (g.B.Book.ledger c.call.new.book) stop c.args.limits.some so (d c.run_ready.new.fuel c.run_ready.new.report)) c.call.ensures.done in
    if_ok c.call.result _ _ (λ stop d. call-advances (scheme_of c.args.at.now c.args.limits) (process_of c.args.at.now (g.B.Book.ledger c.args.book.now)) (process c.call.new.cpu c.call.new.mem c.call.new.io c.run_ready.new.fuel c.run_ready.new.report (g.B.Book.ledger c.call.new.book)) stop d) done

pub returns-in-Asks-clause-ready : goal.returns-in-Asks-clause-ready
returns-in-Asks-clause-ready g c =
    let none : stop_of c.args.limits.pool (process_of c.args.at.now (g.B.Book.ledger c.args.book.now)) ≡ None = stop-first c.args.limits.pool (process_of c.args.at.now (g.B.Book.ledger c.args.book.now)) c.in_ok-before.before c.if-at-eq0.false c.in_ok-before.ensures.stop ∙ c.in_default.is in
    let b : HasBegun c.args.at.now.report.tool c.args.limits.max c.args.at.now.cpu.isa c.args.at.now.mem c.args.at.now.cpu.pc (g.B.Book.ledger c.args.book.now) (g.B.Book.ledger c.begin.new.book) = begun-then c.tool-tool.result c.args.at.now.report.tool c.args.limits.max c.args.at.now.cpu.isa c.args.at.now.mem c.args.at.now.cpu.pc (g.B.Book.ledger c.args.book.now) (g.B.Book.ledger c.begin.new.book) c.in_ok-before.before c.tool-tool.ensures c.in_default.is c.in_ok-before.ensures.begun in
    let after : AfterBlock (scheme_of c.args.at.now c.args.limits) (process_of c.args.at.now (g.B.Book.ledger c.args.book.now)) (process c.run_ready.new.cpu c.run_ready.new.mem c.args.at.now.io c.run_ready.new.fuel c.run_ready.new.report (g.B.Book.ledger c.run_ready.new.book)) c.in_ok-run_ready.field-0 =
    after-block (scheme_of c.args.at.now c.args.limits) c.args.at.now.cpu c.run_ready.new.cpu c.args.at.now.mem c.run_ready.new.mem c.args.at.now.io c.args.at.now.fuel c.run_ready.new.fuel c.args.at.now.report c.run_ready.new.report (g.B.Book.ledger c.args.book.now) (g.B.Book.ledger c.begin.new.book) (g.B.Book.ledger c.run_ready.new.book) c.in_ok-run_ready.field-0 c.requires.ready refl none b
    (λ s i l f. c.in_ok-run_ready.ensures.ran s i l f) c.in_ok-run_ready.ensures.fresh c.in_ok-run_ready.ensures.mapped c.in_ok-run_ready.ensures.shares c.in_ok-run_ready.ensures.regions c.in_ok-run_ready.ensures.segments c.in_ok-run_ready.ensures.counts c.in_ok-run_ready.ensures.aligned c.in_ok-run_ready.ensures.less c.in_ok-run_ready.ensures.small c.in_ok-run_ready.ensures.tool c.in_ok-run_ready.ensures.isa in
    let so : AfterBlock (scheme_of c.args.at.now c.args.limits) (process_of c.args.at.now (g.B.Book.ledger c.args.book.now)) (process c.run_ready.new.cpu c.run_ready.new.mem c.args.at.now.io c.run_ready.new.fuel c.run_ready.new.report (g.B.Book.ledger c.run_ready.new.book)) (ran.Asks) = subst (λ r. AfterBlock (scheme_of c.args.at.now c.args.limits) (process_of c.args.at.now (g.B.Book.ledger c.args.book.now)) (process c.run_ready.new.cpu c.run_ready.new.mem c.args.at.now.io c.run_ready.new.fuel c.run_ready.new.report (g.B.Book.ledger c.run_ready.new.book)) r) c.in-Asks.is after in
    let done : IfOk c.call.result (λ stop. AfterCall (scheme_of c.args.at.now c.args.limits) (process_of c.args.at.now (g.B.Book.ledger c.args.book.now)) (process c.call.new.cpu c.call.new.mem c.call.new.io c.run_ready.new.fuel c.run_ready.new.report (g.B.Book.ledger c.call.new.book)) stop) = if_ok c.call.result _ _ (λ stop d. after-call (scheme_of c.args.at.now c.args.limits) (process_of c.args.at.now (g.B.Book.ledger c.args.book.now)) c.run_ready.new.cpu c.call.new.cpu c.run_ready.new.mem c.call.new.mem c.args.at.now.io c.call.new.io c.run_ready.new.fuel c.run_ready.new.report (g.B.Book.ledger c.run_ready.new.book) (g.B.Book.ledger c.call.new.book) stop c.args.limits.some so (d c.run_ready.new.fuel c.run_ready.new.report)) c.call.ensures.done in
    if_then c.call.result _ _ (λ stop d. d.ready) done

pub returns-in-Asks-clause-keeps : goal.returns-in-Asks-clause-keeps
returns-in-Asks-clause-keeps g c =
    let none : stop_of c.args.limits.pool (process_of c.args.at.now (g.B.Book.ledger c.args.book.now)) ≡ None = stop-first c.args.limits.pool (process_of c.args.at.now (g.B.Book.ledger c.args.book.now)) c.in_ok-before.before c.if-at-eq0.false c.in_ok-before.ensures.stop ∙ c.in_default.is in
    let b : HasBegun c.args.at.now.report.tool c.args.limits.max c.args.at.now.cpu.isa c.args.at.now.mem c.args.at.now.cpu.pc (g.B.Book.ledger c.args.book.now) (g.B.Book.ledger c.begin.new.book) = begun-then c.tool-tool.result c.args.at.now.report.tool c.args.limits.max c.args.at.now.cpu.isa c.args.at.now.mem c.args.at.now.cpu.pc (g.B.Book.ledger c.args.book.now) (g.B.Book.ledger c.begin.new.book) c.in_ok-before.before c.tool-tool.ensures c.in_default.is c.in_ok-before.ensures.begun in
    let after : AfterBlock (scheme_of c.args.at.now c.args.limits) (process_of c.args.at.now (g.B.Book.ledger c.args.book.now)) (process c.run_ready.new.cpu c.run_ready.new.mem c.args.at.now.io c.run_ready.new.fuel c.run_ready.new.report (g.B.Book.ledger c.run_ready.new.book)) c.in_ok-run_ready.field-0 =
    after-block (scheme_of c.args.at.now c.args.limits) c.args.at.now.cpu c.run_ready.new.cpu c.args.at.now.mem c.run_ready.new.mem c.args.at.now.io c.args.at.now.fuel c.run_ready.new.fuel c.args.at.now.report c.run_ready.new.report (g.B.Book.ledger c.args.book.now) (g.B.Book.ledger c.begin.new.book) (g.B.Book.ledger c.run_ready.new.book) c.in_ok-run_ready.field-0 c.requires.ready refl none b
    (λ s i l f. c.in_ok-run_ready.ensures.ran s i l f) c.in_ok-run_ready.ensures.fresh c.in_ok-run_ready.ensures.mapped c.in_ok-run_ready.ensures.shares c.in_ok-run_ready.ensures.regions c.in_ok-run_ready.ensures.segments c.in_ok-run_ready.ensures.counts c.in_ok-run_ready.ensures.aligned c.in_ok-run_ready.ensures.less c.in_ok-run_ready.ensures.small c.in_ok-run_ready.ensures.tool c.in_ok-run_ready.ensures.isa in
    let so : AfterBlock (scheme_of c.args.at.now c.args.limits) (process_of c.args.at.now (g.B.Book.ledger c.args.book.now)) (process c.run_ready.new.cpu c.run_ready.new.mem c.args.at.now.io c.run_ready.new.fuel c.run_ready.new.report (g.B.Book.ledger c.run_ready.new.book)) (ran.Asks) = subst (λ r. AfterBlock (scheme_of c.args.at.now c.args.limits) (process_of c.args.at.now (g.B.Book.ledger c.args.book.now)) (process c.run_ready.new.cpu c.run_ready.new.mem c.args.at.now.io c.run_ready.new.fuel c.run_ready.new.report (g.B.Book.ledger c.run_ready.new.book)) r) c.in-Asks.is after in
    let done : IfOk c.call.result (λ stop. AfterCall (scheme_of c.args.at.now c.args.limits) (process_of c.args.at.now (g.B.Book.ledger c.args.book.now)) (process c.call.new.cpu c.call.new.mem c.call.new.io c.run_ready.new.fuel c.run_ready.new.report (g.B.Book.ledger c.call.new.book)) stop) = if_ok c.call.result _ _ (λ stop d. after-call (scheme_of c.args.at.now c.args.limits) (process_of c.args.at.now (g.B.Book.ledger c.args.book.now)) c.run_ready.new.cpu c.call.new.cpu c.run_ready.new.mem c.call.new.mem c.args.at.now.io c.call.new.io c.run_ready.new.fuel c.run_ready.new.report (g.B.Book.ledger c.run_ready.new.book) (g.B.Book.ledger c.call.new.book) stop c.args.limits.some so (d c.run_ready.new.fuel c.run_ready.new.report)) c.call.ensures.done in
    if_then c.call.result _ _ (λ stop d. d.keeps) done

pub returns-in-Asks-clause-asks : goal.returns-in-Asks-clause-asks
returns-in-Asks-clause-asks g c =
    let none : stop_of c.args.limits.pool (process_of c.args.at.now (g.B.Book.ledger c.args.book.now)) ≡ None = stop-first c.args.limits.pool (process_of c.args.at.now (g.B.Book.ledger c.args.book.now)) c.in_ok-before.before c.if-at-eq0.false c.in_ok-before.ensures.stop ∙ c.in_default.is in
    let b : HasBegun c.args.at.now.report.tool c.args.limits.max c.args.at.now.cpu.isa c.args.at.now.mem c.args.at.now.cpu.pc (g.B.Book.ledger c.args.book.now) (g.B.Book.ledger c.begin.new.book) = begun-then c.tool-tool.result c.args.at.now.report.tool c.args.limits.max c.args.at.now.cpu.isa c.args.at.now.mem c.args.at.now.cpu.pc (g.B.Book.ledger c.args.book.now) (g.B.Book.ledger c.begin.new.book) c.in_ok-before.before c.tool-tool.ensures c.in_default.is c.in_ok-before.ensures.begun in
    let after : AfterBlock (scheme_of c.args.at.now c.args.limits) (process_of c.args.at.now (g.B.Book.ledger c.args.book.now)) (process c.run_ready.new.cpu c.run_ready.new.mem c.args.at.now.io c.run_ready.new.fuel c.run_ready.new.report (g.B.Book.ledger c.run_ready.new.book)) c.in_ok-run_ready.field-0 =
    after-block (scheme_of c.args.at.now c.args.limits) c.args.at.now.cpu c.run_ready.new.cpu c.args.at.now.mem c.run_ready.new.mem c.args.at.now.io c.args.at.now.fuel c.run_ready.new.fuel c.args.at.now.report c.run_ready.new.report (g.B.Book.ledger c.args.book.now) (g.B.Book.ledger c.begin.new.book) (g.B.Book.ledger c.run_ready.new.book) c.in_ok-run_ready.field-0 c.requires.ready refl none b
    (λ s i l f. c.in_ok-run_ready.ensures.ran s i l f) c.in_ok-run_ready.ensures.fresh c.in_ok-run_ready.ensures.mapped c.in_ok-run_ready.ensures.shares c.in_ok-run_ready.ensures.regions c.in_ok-run_ready.ensures.segments c.in_ok-run_ready.ensures.counts c.in_ok-run_ready.ensures.aligned c.in_ok-run_ready.ensures.less c.in_ok-run_ready.ensures.small c.in_ok-run_ready.ensures.tool c.in_ok-run_ready.ensures.isa in
    let so : AfterBlock (scheme_of c.args.at.now c.args.limits) (process_of c.args.at.now (g.B.Book.ledger c.args.book.now)) (process c.run_ready.new.cpu c.run_ready.new.mem c.args.at.now.io c.run_ready.new.fuel c.run_ready.new.report (g.B.Book.ledger c.run_ready.new.book)) (ran.Asks) = subst (λ r. AfterBlock (scheme_of c.args.at.now c.args.limits) (process_of c.args.at.now (g.B.Book.ledger c.args.book.now)) (process c.run_ready.new.cpu c.run_ready.new.mem c.args.at.now.io c.run_ready.new.fuel c.run_ready.new.report (g.B.Book.ledger c.run_ready.new.book)) r) c.in-Asks.is after in
    let done : IfOk c.call.result (λ stop. AfterCall (scheme_of c.args.at.now c.args.limits) (process_of c.args.at.now (g.B.Book.ledger c.args.book.now)) (process c.call.new.cpu c.call.new.mem c.call.new.io c.run_ready.new.fuel c.run_ready.new.report (g.B.Book.ledger c.call.new.book)) stop) = if_ok c.call.result _ _ (λ stop d. after-call (scheme_of c.args.at.now c.args.limits) (process_of c.args.at.now (g.B.Book.ledger c.args.book.now)) c.run_ready.new.cpu c.call.new.cpu c.run_ready.new.mem c.call.new.mem c.args.at.now.io c.call.new.io c.run_ready.new.fuel c.run_ready.new.report (g.B.Book.ledger c.run_ready.new.book) (g.B.Book.ledger c.call.new.book) stop c.args.limits.some so (d c.run_ready.new.fuel c.run_ready.new.report)) c.call.ensures.done in
    if_ok c.call.result _ _ (λ stop d. d.asks) done

pub returns-in-Asks-clause-made : goal.returns-in-Asks-clause-made
returns-in-Asks-clause-made g c =
    if_then c.call.result _ _ (λ stop d. made-so (g.B.Book.ledger c.args.book.now) (g.B.Book.ledger c.begin.new.book) (g.B.Book.ledger c.call.new.book) c.args.steps.now c.begin.new.steps (g.M.Maker.taken c.args.maker.now) (g.M.Maker.taken c.begin.new.maker) c.in_ok-before.ensures.made
    ((d c.run_ready.new.fuel c.run_ready.new.report).counts ∙ c.in_ok-run_ready.ensures.counts)) c.call.ensures.done

pub returns-in-Asks-clause-wants : goal.returns-in-Asks-clause-wants
returns-in-Asks-clause-wants g c =
    let none : stop_of c.args.limits.pool (process_of c.args.at.now (g.B.Book.ledger c.args.book.now)) ≡ None = stop-first c.args.limits.pool (process_of c.args.at.now (g.B.Book.ledger c.args.book.now)) c.in_ok-before.before c.if-at-eq0.false c.in_ok-before.ensures.stop ∙ c.in_default.is in
    let b : HasBegun c.args.at.now.report.tool c.args.limits.max c.args.at.now.cpu.isa c.args.at.now.mem c.args.at.now.cpu.pc (g.B.Book.ledger c.args.book.now) (g.B.Book.ledger c.begin.new.book) = begun-then c.tool-tool.result c.args.at.now.report.tool c.args.limits.max c.args.at.now.cpu.isa c.args.at.now.mem c.args.at.now.cpu.pc (g.B.Book.ledger c.args.book.now) (g.B.Book.ledger c.begin.new.book) c.in_ok-before.before c.tool-tool.ensures c.in_default.is c.in_ok-before.ensures.begun in
    let calls : CallsSystem (process c.args.at.now.cpu c.args.at.now.mem c.args.at.now.io c.args.at.now.fuel c.args.at.now.report (g.B.Book.ledger c.begin.new.book)) =
    subst (λ r. LeavesBy (process c.args.at.now.cpu c.args.at.now.mem c.args.at.now.io c.args.at.now.fuel c.args.at.now.report (g.B.Book.ledger c.begin.new.book)) r) c.in-Asks.is (c.in_ok-run_ready.ensures.leaves c.args.at.now.io) in
    any_err c.call.result _ (calls-so (scheme_of c.args.at.now c.args.limits) c.args.at.now.cpu c.args.at.now.mem c.args.at.now.io c.args.at.now.fuel c.args.at.now.report (g.B.Book.ledger c.args.book.now) (g.B.Book.ledger c.begin.new.book) c.requires.ready refl none b calls)

pub returns-in-Some-clause-ran : goal.returns-in-Some-clause-ran
returns-in-Some-clause-ran g c =
    let same : g.B.Book.ledger c.begin.new.book ≡ g.B.Book.ledger c.args.book.now = same-then (g.B.Book.ledger c.args.book.now) (g.B.Book.ledger c.begin.new.book) c.in_ok-before.before c.in-Some.stop c.in-Some.is c.in_ok-before.ensures.same in
    let first : stop_of c.args.limits.pool (process_of c.args.at.now (g.B.Book.ledger c.args.book.now)) ≡ Some c.in-Some.stop = stop-first c.args.limits.pool (process_of c.args.at.now (g.B.Book.ledger c.args.book.now)) c.in_ok-before.before c.if-at-eq0.false c.in_ok-before.ensures.stop ∙ c.in-Some.is in
    inl (ap (process_of c.args.at.now) same, first)

pub returns-in-Some-clause-ready : goal.returns-in-Some-clause-ready
returns-in-Some-clause-ready g c =
    let same : g.B.Book.ledger c.begin.new.book ≡ g.B.Book.ledger c.args.book.now = same-then (g.B.Book.ledger c.args.book.now) (g.B.Book.ledger c.begin.new.book) c.in_ok-before.before c.in-Some.stop c.in-Some.is c.in_ok-before.ensures.same in
    subst (λ l. IsReady (scheme_of c.args.at.now c.args.limits) (process_of c.args.at.now l)) (sym same) c.requires.ready

pub returns-in-Some-clause-keeps : goal.returns-in-Some-clause-keeps
returns-in-Some-clause-keeps g c =
    let same : g.B.Book.ledger c.begin.new.book ≡ g.B.Book.ledger c.args.book.now = same-then (g.B.Book.ledger c.args.book.now) (g.B.Book.ledger c.begin.new.book) c.in_ok-before.before c.in-Some.stop c.in-Some.is c.in_ok-before.ensures.same in
    subst (λ l. Keeps (process_of c.args.at.now (g.B.Book.ledger c.args.book.now)) (process_of c.args.at.now l)) (sym same) (keeps-all (process_of c.args.at.now (g.B.Book.ledger c.args.book.now)))

pub returns-in-Some-clause-asks : goal.returns-in-Some-clause-asks
returns-in-Some-clause-asks g c = stops-well c.args.limits.pool (g.B.Book.ledger c.args.book.now) c.args.at.now.cpu.pc (fetched c.args.at.now.mem c.args.at.now.cpu.pc) c.in-Some.stop c.args.at.now.io (sym c.in_ok-before.ensures.stop ∙ c.in-Some.is)
