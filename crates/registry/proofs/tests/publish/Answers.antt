use Rattle.std.proofs.Common.{subst}
use Rattle.registry.specs.declared.registry.Due.{Due}
use Rattle.registry.specs.Dues.{Dues}
use Rattle.registry.proofs.tests.publish.Goals as goal

pub acked-requires : goal.acked-requires
acked-requires c =
    let d = subst (λ (x : Due). Dues c.args.registry.now c.due.new.self x) c.in-Slot.is c.in_ok-slot.ensures.ok in
    c.dues_may_be_answered.ensures c.args.registry.now c.due.new.self c.in-Slot.slot c.in-Slot.age c.in-Slot.version d.0
