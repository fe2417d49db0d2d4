use Rattle.std.proofs.Common.{arith}
use Rattle.unit_format.proofs.Lengths.{spelling_short}
use Rattle.unit_format.proofs.writing.put_name.Goals as goal

pub overflow_cast-text_len : goal.overflow_cast-text_len
overflow_cast-text_len c = omega (arith, c.text_len.ensures, spelling_short c.args.slot.now c.requires.slot)
