use Rattle.std.proofs.Common.{◌≡◌, IsSome, ap, sym, subst, arith}
use Rattle.std.specs.FinMap as fin
use Rattle.probe_tools.specs.Rows.{count_at, with_more}
use Rattle.probe_tools.proofs.Counting.{has_row, count_most}
use Rattle.report.specs.Rows.{Rows}
use Rattle.report.proofs.tests.a_row_rises_by_many.Goals as goal

pub raise-requires-clause-row : goal.raise-requires-clause-row
raise-requires-clause-row g c =
    subst (λ (r : Rows). IsSome (fin.get r.counts c.key_of-key.result)) (sym c.in_ok-add_many.ensures.ok) (has_row c.in_ok-report.report.counts c.key_of-key.result 999999999)

pub raise-requires-clause-small : goal.raise-requires-clause-small
raise-requires-clause-small g c =
    let counts = c.in_ok-report.report.counts in
    let is : count_at c.add_many.new.self.counts c.key_of-key.result ≡ count_at (with_more c.key_of-key.result 999999999 counts) c.key_of-key.result =
    ap (λ (r : Rows). count_at r.counts c.key_of-key.result) c.in_ok-add_many.ensures.ok in
    omega (arith, is, count_most counts c.key_of-key.result 999999999 c.key_of-key.result, c.in_ok-report.ensures c.key_of-key.result)
