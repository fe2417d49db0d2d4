use Rattle.std.proofs.Common.{◌<◌, ◌≤◌, ◌∙◌, ap, arith, length}
use Rattle.std.proofs.lemmas.List.{take_all}
use Rattle.std.specs.List.{flat_map}
use Rattle.outside.specs.Sink.{with_bytes}
use Rattle.host_text.proofs.Written.{front_at, nothing_more, on_err, written_piece}
use Rattle.host_text.proofs.printing.print_all.Goals as goal

pub loop-text-init : goal.loop-text-init
loop-text-init g c = record { written = nothing_more (g.K.Sink.written c.args.out.now); no_less = omega arith }

pub returns-in_err-print-clause-front : goal.returns-in_err-print-clause-front
returns-in_err-print-clause-front g c =
    let within : c.loop-text.text-index < length c.args.texts.now = omega (arith, c.loop-text-test.true, c.loop-text.auto.text-index-end) in
    let h = c.in_err-print.ensures in
    on_err c.from_residual.result (front_at (λ text. text.now) c.args.texts.now c.loop-text.text-index _ _ _ _ within c.loop-text.invariant.written h.front)

pub loop-text-preserved : goal.loop-text-preserved
loop-text-preserved g c =
    let within : c.loop-text.text-index < length c.args.texts.now = omega (arith, c.loop-text-test.true, c.loop-text.auto.text-index-end) in
    record {
      written = written_piece (λ text. text.now) c.args.texts.now c.loop-text.text-index _ _ _ _ within c.loop-text.invariant.written c.in_ok-print.ensures.whole;
      no_less = omega (arith, c.loop-text.invariant.no_less, c.in_ok-print.ensures.never_falls);
    }

pub returns-clause-whole : goal.returns-clause-whole
returns-clause-whole g c =
    let all : length c.args.texts.now ≤ c.loop-text.text-index = omega (arith, c.loop-text-test.false, c.loop-text.auto.text-index-end) in
    c.loop-text.invariant.written ∙ ap (λ texts. with_bytes (g.K.Sink.written c.args.out.now) (flat_map (λ text. text.now) texts)) (take_all c.loop-text.text-index c.args.texts.now all)
