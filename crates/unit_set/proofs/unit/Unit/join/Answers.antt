use Rattle.std.proofs.Common.{◌∙◌, arith}
use Rattle.unit_set.proofs.Merging.{held_new}
use Rattle.unit_set.proofs.unit.Unit.join.Goals as goal

pub invariant_of-result : goal.invariant_of-result
invariant_of-result c =
    held_new c.args.self.now.slot c.in_ok-slot.slot c.args.self.now.image c.in_ok-image.image c.addrs.result.now c.deref.result.now c.frags.result.now c.args.added.now c.in_ok-addrs.addrs.items c.in_ok-addrs.frags.items c.in_ok-addrs.ensures
    (c.in_ok-slot.ensures ∙ c.slot.ensures) (c.in_ok-image.ensures ∙ c.image.ensures) c.frags.ensures.fresh c.requires.fresh (omega (arith, c.len.ensures, c.if-len-gt16384.false))
