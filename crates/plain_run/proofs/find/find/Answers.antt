use Rattle.std.proofs.Common.{refl, sym}
use Rattle.plain_run.proofs.Finding.{region-shown, unfetched-none}
use Rattle.plain_run.proofs.find.find.Goals as goal

pub returns-in_err-code-clause-none : goal.returns-in_err-code-clause-none
returns-in_err-code-clause-none c = λ none. unfetched-none c.args.cpu.now c.args.mem.now c.in_err-code.ensures.shown

pub returns-clause-region : goal.returns-clause-region
returns-clause-region c =
    region-shown c.args.cpu.now.pc c.in-Ok.word c.args.mem.now c.in_ok-code.code _ c.in_ok-code.ensures.memory refl c.in_ok-code.ensures.shown (sym c.in-Ok.ensures.value)
