use Rattle.std.proofs.Common.{◌≡◌, ◌+◌, ◌-◌, ◌≤◌, ◌/◌, max}
use Rattle.std.specs.BTreeMap.{get}
use Rattle.std.specs.Ordering.{nat_cmp}
use Rattle.code_writes.proofs.Searching.{NoneBefore}
use Rattle.code_writes.proofs.covers.Covers.first_meeting.Given as goal

abbrev pub invariant-loop-page : goal.invariant-loop-page
invariant-loop-page l = record {
  start : max l.s.start l.from / 256 ≤ l.page;
  last : l.last ≡ (l.s.start + (l.s.len - 1)) / 256;
  none : NoneBefore (get nat_cmp l.self-inside.lens) l.s.start l.s.len l.from l.page;
}

abbrev pub decreases-loop-page : goal.decreases-loop-page
decreases-loop-page l = l.last + 1 - l.page
