use Rattle.std.proofs.Common.{◌≡◌, ◌≤◌, ◌-◌, length, take}
use Rattle.outside.specs.Sink.{with_bytes}
use Rattle.host_text.proofs.printing.print.Given as goal

abbrev pub invariant-loop-sent : goal.invariant-loop-sent
invariant-loop-sent g l = record {
  within : l.sent ≤ length l.text;
  written : g.K.Sink.written l.out ≡ with_bytes (g.K.Sink.written l.fn.out) (take l.sent l.text);
  no_less : g.K.Sink.faults l.fn.out ≤ g.K.Sink.faults l.out;
}

abbrev pub decreases-loop-sent : goal.decreases-loop-sent
decreases-loop-sent g l = length l.text - l.sent
