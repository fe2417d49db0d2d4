use Rattle.std.proofs.Common.{◌≡◌, ◌++◌, ◌<◌, ◌≤◌, ◌∙◌, ap, sym, arith, length, take}
use Rattle.std.specs.List.{flat_map}
use Rattle.std.proofs.lemmas.List.{take_all}
use Rattle.host_text.specs.Text.{text_in}
use Rattle.host_text.proofs.Written.{pieces_more}
use Rattle.host_text.proofs.text.texts_of.Goals as goal

pub loop-ran-preserved : goal.loop-ran-preserved
loop-ran-preserved c =
    let within : c.loop-ran.ran-index < length c.args.rans.now = omega (arith, c.loop-ran-test.true, c.loop-ran.auto.ran-index-end) in
    c.in_ok-extend_from_slice.ensures.items ∙ ap (λ t. t ++ c.deref.result.now) c.loop-ran.invariant
    ∙ ap (λ t. flat_map (text_in c.args.with_counts) (take c.loop-ran.ran-index c.args.rans.now) ++ t) (c.deref.ensures.value ∙ c.in_ok-text_of.ensures ∙ ap (text_in c.args.with_counts) c.ran-item.is)
    ∙ sym (pieces_more (text_in c.args.with_counts) c.args.rans.now c.loop-ran.ran-index c.ran-item.result within)

pub returns : goal.returns
returns c =
    let all : length c.args.rans.now ≤ c.loop-ran.ran-index = omega (arith, c.loop-ran-test.false, c.loop-ran.auto.ran-index-end) in
    c.loop-ran.invariant ∙ ap (flat_map (text_in c.args.with_counts)) (take_all c.loop-ran.ran-index c.args.rans.now all)
