use Rattle.std.proofs.Common.{◌≡◌, flat_map}
use Rattle.std.specs.List.{range_with_len}
use Rattle.journal_text.specs.Shut.{shut_line}
use Rattle.journal_text.proofs.shut.push_shut.Given as goal

abbrev pub invariant-loop-slot : goal.invariant-loop-slot
invariant-loop-slot l = l.lines.items ≡ flat_map (shut_line l.slots l.loads l.served) (range_with_len 0 l.slot)
