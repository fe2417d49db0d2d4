use Rattle.std.proofs.Common.{◌≡◌, drop}
use Rattle.std.specs.List.{list_any}
use Rattle.journal_text.specs.Shut.{wore_out}
use Rattle.journal_text.proofs.shut.is_worn_out.Given as goal

abbrev pub invariant-loop-p : goal.invariant-loop-p
invariant-loop-p l = list_any (wore_out l.slot) (drop l.p-index l.served) ≡ list_any (wore_out l.slot) l.served
