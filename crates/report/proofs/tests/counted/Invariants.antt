use Rattle.std.proofs.Common.{◌≤◌, ℕ}
use Rattle.probe_tools.specs.Rows.{count_at}
use Rattle.report.proofs.tests.counted.Given as goal

abbrev pub invariant-loop-event : goal.invariant-loop-event
invariant-loop-event l = (key : ℕ) → count_at l.report.counts key ≤ l.event-index
