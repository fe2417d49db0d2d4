use Rattle.std.proofs.Common.{◌≡◌, ◌++◌, take}
use Rattle.journal_text.specs.Journal.{numbers}
use Rattle.journal_text.proofs.names.push_numbers.Given as goal

abbrev pub invariant-loop-n : goal.invariant-loop-n
invariant-loop-n l = l.out.items ≡ l.fn.out.items ++ numbers (take l.n-index l.ns)
