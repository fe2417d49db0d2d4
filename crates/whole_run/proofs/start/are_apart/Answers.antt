use Rattle.std.proofs.Common.{◌≤◌, length, subst, arith, All}
use Rattle.std.proofs.lemmas.List.{take_all}
use Rattle.unit_set.specs.Slot.{IsSlot}
use Rattle.whole_run.proofs.Starting.{all_more}
use Rattle.whole_run.proofs.start.are_apart.Goals as goal

pub loop-slot-preserved : goal.loop-slot-preserved
loop-slot-preserved c =
    all_more IsSlot c.args.slots.now c.loop-slot.slot-index c.slot-item.result c.loop-slot-test.true c.slot-item.is c.loop-slot.invariant (subst IsSlot c.slot.view_is c.slot.invariant)

pub returns : goal.returns
returns c =
    let all : length c.args.slots.now ≤ c.loop-slot.slot-index = omega (arith, c.loop-slot-test.false) in
    c.spellings_differ.ensures c.args.slots.now (subst (λ xs. All IsSlot xs) (take_all c.loop-slot.slot-index c.args.slots.now all) c.loop-slot.invariant) c.requires
