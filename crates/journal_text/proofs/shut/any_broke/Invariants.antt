use Rattle.std.proofs.Common.{◌≡◌, drop}
use Rattle.std.specs.List.{list_any}
use Rattle.journal_text.specs.Shut.{broke}
use Rattle.journal_text.proofs.shut.any_broke.Given as goal

abbrev pub invariant-loop-p : goal.invariant-loop-p
invariant-loop-p l = list_any (broke l.slot) (drop l.p-index l.served) ≡ list_any (broke l.slot) l.served
