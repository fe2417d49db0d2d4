use Rattle.std.proofs.Common.{◌≡◌, ◌++◌, flat_map, drop}
use Rattle.journal_text.specs.Journal.{entry_line, journal_lines}
use Rattle.journal_text.proofs.journal.push_journal.Given as goal

abbrev pub invariant-loop-entry : goal.invariant-loop-entry
invariant-loop-entry l = l.lines.items ++ flat_map (entry_line l.guests l.slots) (drop l.entry-index l.journal) ≡ journal_lines l.guests l.slots l.journal
