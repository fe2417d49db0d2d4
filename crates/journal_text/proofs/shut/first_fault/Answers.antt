use Rattle.std.proofs.Common.{◌≡◌, length, false, sym, ◌∙◌, arith}
use Rattle.journal_text.specs.Shut.{shelf_failed}
use Rattle.journal_text.proofs.Numbers.{not_this}
use Rattle.journal_text.proofs.shut.first_fault.Goals as goal

pub loop-slot-preserved : goal.loop-slot-preserved
loop-slot-preserved c =
    let fails : shelf_failed c.args.loads.now c.args.served.now c.loop-slot.slot ≡ false = sym c.shelf_failed.ensures ∙ c.if-shelf_failed.false in
    sym (not_this (shelf_failed c.args.loads.now c.args.served.now) c.loop-slot.slot (length c.args.loads.now) (omega (arith, c.loop-slot-test.true)) fails) ∙ c.loop-slot.invariant
