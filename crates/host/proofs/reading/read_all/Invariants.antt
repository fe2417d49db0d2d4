use Rattle.std.proofs.Common.{◌≡◌, ◌≤◌, ℕ, List, take}
use Rattle.host.specs.Reading.{AreRead}
use Rattle.host.specs.Seen.{source_of}
use Rattle.host.proofs.reading.read_all.Given as goal

abbrev pub invariant-loop-name : goal.invariant-loop-name
invariant-loop-name g l = record {
  read : AreRead (source_of g.F.Files.content g.F.Files.faults l.fn.files l.files) l.limit (take l.name-index l.names) l.all.items;
  kept : (n : List ℕ) → g.F.Files.content l.files n ≡ g.F.Files.content l.fn.files n;
  no_less : (n : List ℕ) → g.F.Files.faults l.fn.files n ≤ g.F.Files.faults l.files n;
}
