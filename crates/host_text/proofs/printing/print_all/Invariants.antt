use Rattle.std.proofs.Common.{◌≡◌, ◌≤◌, take}
use Rattle.std.specs.List.{flat_map}
use Rattle.outside.specs.Sink.{with_bytes}
use Rattle.host_text.proofs.printing.print_all.Given as goal

abbrev pub invariant-loop-text : goal.invariant-loop-text
invariant-loop-text g l = record {
  written : g.K.Sink.written l.out ≡ with_bytes (g.K.Sink.written l.fn.out) (flat_map (λ text. text.now) (take l.text-index l.texts));
  no_less : g.K.Sink.faults l.fn.out ≤ g.K.Sink.faults l.out;
}
