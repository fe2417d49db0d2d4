use Rattle.std.proofs.Common.{length, ap, arith, length-drop}
use Rattle.host_text.proofs.Written.{written_more, rest_is}
use Rattle.host_text.proofs.printing.print.Goals as goal

pub loop-sent-preserved : goal.loop-sent-preserved
loop-sent-preserved g c =
    let rest = rest_is c.args.text.now c.loop-sent.sent in
    record {
      within = omega (arith, c.in_ok-sent.ensures.count, ap length rest, length-drop c.loop-sent.sent c.args.text.now, c.loop-sent-test.true);
      written = written_more _ _ _ _ _ _ c.loop-sent.invariant.written (rw rest at c.in_ok-sent.ensures.appended);
      no_less = omega (arith, c.write.ensures.never_falls);
    }
