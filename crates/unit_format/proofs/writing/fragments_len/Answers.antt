use Rattle.std.proofs.Common.{arith, length, ap, ◌∙◌}
use Rattle.std.proofs.lemmas.List.Elements.{All-get_or}
use Rattle.unit_set.specs.Held.{IsFreshFor}
use Rattle.unit_format.proofs.Blocks.{is_small}
use Rattle.unit_format.proofs.Sizes.{one_text, all_stand, one_more}
use Rattle.unit_format.proofs.writing.fragments_len.Goals as goal

pub fragment_len-len-requires : goal.fragment_len-len-requires
fragment_len-len-requires c =
    let u = c.args.u.now in
    let frags = c.frags-f-items in
    rw c.fragment.ensures (is_small u.slot u.image c.f-item.result c.requires (rw c.f-item.is (All-get_or (IsFreshFor u.slot u.image) frags.result.now c.loop-f.f-index c.f-item.result c.loop-f-test.true frags.ensures.fresh)))

pub overflow_add-len : goal.overflow_add-len
overflow_add-len c = omega (arith, c.loop-f.invariant.1, c.fragment_len-len.ensures.short, c.loop-f-test.true, c.frags-f-items.ensures.few)

pub loop-f-preserved : goal.loop-f-preserved
loop-f-preserved c =
    let frags = c.args.u.now.frags in
    let same = ap (λ f. length (one_text frags f)) c.fragment.ensures in
    let more = one_more frags c.frags-f-items.result.now c.loop-f.f-index c.frags-f-items.ensures.frags c.f-item.result c.loop-f-test.true c.f-item.is in (
      omega (arith, c.loop-f.invariant.0, more, c.fragment_len-len.ensures.exact frags, same),
      omega (arith, c.loop-f.invariant.1, c.fragment_len-len.ensures.short),
    )

pub returns-clause-exact : goal.returns-clause-exact
returns-clause-exact c = c.loop-f.invariant.0 ∙ all_stand c.args.u.now.frags c.frags-f-items.result.now c.loop-f.f-index c.frags-f-items.ensures.frags (omega (arith, c.loop-f-test.false))

pub returns-clause-short : goal.returns-clause-short
returns-clause-short c = omega (arith, c.loop-f.invariant.1, c.loop-f.auto.f-index-end, c.frags-f-items.ensures.few)
