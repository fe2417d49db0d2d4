use Rattle.std.proofs.Common.{arith, ap, ◌∙◌}
use Rattle.fragment.specs.Parts.{Parts}
use Rattle.unit_check.specs.Admission.{IsFresh}
use Rattle.unit_check.proofs.Firsts.{one_more, all_done}
use Rattle.unit_check.proofs.Admitting.{stale_at, fresh_at}
use Rattle.unit_check.proofs.fresh.first_stale.Goals as goal

pub returns-then-not-is_fresh : goal.returns-then-not-is_fresh
returns-then-not-is_fresh c =
    stale_at c.args.slot.now c.args.image.now c.args.frags.now c.loop-f.f-index c.f-item.result c.frag.result.now c.is_fresh.result c.addr.result c.loop-f-test.true c.f-item.is c.loop-f.invariant c.frag.ensures
    c.is_fresh.ensures c.if-not-is_fresh.true (c.addr.ensures ∙ ap (λ (p : Parts). p.address) c.frag-then-not-is_fresh.ensures)

pub loop-f-preserved : goal.loop-f-preserved
loop-f-preserved c =
    one_more (IsFresh c.args.slot.now c.args.image.now) c.args.frags.now c.loop-f.f-index c.f-item.result c.loop-f-test.true c.f-item.is c.loop-f.invariant
    (fresh_at c.args.slot.now c.args.image.now c.frag.result.now c.f-item.result c.is_fresh.result c.frag.ensures c.is_fresh.ensures c.if-not-is_fresh.false)

pub returns : goal.returns
returns c = all_done (IsFresh c.args.slot.now c.args.image.now) c.args.frags.now c.loop-f.f-index (omega (arith, c.loop-f-test.false)) c.loop-f.invariant
