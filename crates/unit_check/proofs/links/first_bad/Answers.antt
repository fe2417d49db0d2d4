use Rattle.std.proofs.Common.{arith, ap, ◌∙◌}
use Rattle.fragment.specs.Parts.{Parts}
use Rattle.unit_check.specs.Admission.{HasLinks}
use Rattle.unit_check.proofs.Firsts.{one_more, all_done}
use Rattle.unit_check.proofs.Admitting.{bad_at, has_at}
use Rattle.unit_check.proofs.links.first_bad.Goals as goal

pub returns-in-Some : goal.returns-in-Some
returns-in-Some c =
    bad_at c.args.addrs.now c.args.frags.now c.loop-f.f-index c.f-item.result c.links.result.now c.exits.result.now c.addr.result c.in-Some.exit c.loop-f-test.true c.f-item.is c.loop-f.invariant
    (c.links.ensures) (c.exits.ensures ∙ ap (λ (p : Parts). p.exits) c.frag.ensures) c.in-Some.ensures (c.addr.ensures ∙ ap (λ (p : Parts). p.address) c.frag-in-Some.ensures)

pub loop-f-preserved : goal.loop-f-preserved
loop-f-preserved c =
    one_more (HasLinks c.args.addrs.now) c.args.frags.now c.loop-f.f-index c.f-item.result c.loop-f-test.true c.f-item.is c.loop-f.invariant
    (has_at c.args.addrs.now c.f-item.result c.links.result.now c.exits.result.now c.links.ensures (c.exits.ensures ∙ ap (λ (p : Parts). p.exits) c.frag.ensures) c.in_default.ensures)

pub returns : goal.returns
returns c = all_done (HasLinks c.args.addrs.now) c.args.frags.now c.loop-f.f-index (omega (arith, c.loop-f-test.false)) c.loop-f.invariant
