use Rattle.std.proofs.Common.{arith, ap, length}
use Rattle.unit_format.proofs.Lengths.{spelling_short}
use Rattle.unit_format.proofs.writing.text_len.Goals as goal

pub overflow_add-result : goal.overflow_add-result
overflow_add-result c = omega (arith, c.text_len.ensures, spelling_short c.slot-slot.result.now (rw (← c.slot.view_is) c.slot.invariant))

pub overflow_add-result-2 : goal.overflow_add-result-2
overflow_add-result-2 c = omega (arith, c.text_len.ensures, spelling_short c.slot-slot.result.now (rw (← c.slot.view_is) c.slot.invariant), ap length c.items.ensures, c.behind-u.invariant)

pub overflow_add-result-3 : goal.overflow_add-result-3
overflow_add-result-3 c = omega (arith, c.text_len.ensures, spelling_short c.slot-slot.result.now (rw (← c.slot.view_is) c.slot.invariant), ap length c.items.ensures, c.behind-u.invariant, c.fragments_len.ensures.short)
