use Rattle.std.proofs.Common.{◌≡◌, ◌-◌, length, find}
use Rattle.std.specs.List.{range_with_len}
use Rattle.journal_text.specs.Shut.{shelf_failed, first_fault}
use Rattle.journal_text.proofs.shut.first_fault.Given as goal

abbrev pub invariant-loop-slot : goal.invariant-loop-slot
invariant-loop-slot l = find (shelf_failed l.loads l.served) (range_with_len l.slot (length l.loads - l.slot)) ≡ first_fault l.loads l.served
