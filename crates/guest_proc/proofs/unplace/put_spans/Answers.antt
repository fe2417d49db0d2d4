use Rattle.std.proofs.Common.{◌≡◌, ◌≤◌, ◌∙◌, length, arith, subst}
use Rattle.std.specs.Prelude.{take}
use Rattle.std.proofs.lemmas.List.{length-map, take_all}
use Rattle.elf_map.specs.Program.{span_at, spans_of, texts_of}
use Rattle.guest_proc.proofs.Spans.{spans-are}
use Rattle.guest_proc.proofs.unplace.put_spans.Goals as goal

pub returns-clause-spans : goal.returns-clause-spans
returns-clause-spans c =
    let size = length-map (texts_of c.args.elf.now) (span_at c.args.base) in
    let all : length (spans_of c.args.elf.now c.args.base) ≤ c.from-count.result = omega (arith, size, c.code_count.ensures.count, c.from-count.ensures) in
    let seg : c.loop-seg.seg ≡ c.from-count.result = omega (arith, c.loop-seg-test.false, c.loop-seg.auto.seg-end) in
    subst (λ n. take n c.loop-seg.spans ≡ take n (spans_of c.args.elf.now c.args.base)) seg c.loop-seg.invariant
    ∙ take_all c.from-count.result (spans_of c.args.elf.now c.args.base) all
    ∙ spans-are c.args.elf.now c.args.base
