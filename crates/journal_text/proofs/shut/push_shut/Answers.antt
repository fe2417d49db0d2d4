use Rattle.std.proofs.Common.{ap, sym, ◌∙◌, ◌++◌}
use Rattle.journal_text.specs.Shut.{shut_line}
use Rattle.journal_text.proofs.Numbers.{one_more}
use Rattle.journal_text.proofs.shut.push_shut.Goals as goal

pub loop-slot-preserved : goal.loop-slot-preserved
loop-slot-preserved c =
    let line = shut_line c.args.slots.now c.args.loads.now c.args.served.now in
    c.in_ok-push_line.ensures ∙ ap (λ done. done ++ line c.loop-slot.slot) c.loop-slot.invariant ∙ sym (one_more line c.loop-slot.slot)
