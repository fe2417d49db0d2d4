use Rattle.std.proofs.Common.{◌≡◌, ◌+◌, IsSome, None, nat_eq, unwrap_or, rules, arith, refl, ap, sym, ◌∙◌}
use Rattle.std.specs.HashMap.{get}
use Rattle.probe_tools.specs.Rows.{count_at}
use Rattle.report.proofs.Counting.{count_seen, more_seen, no_row}
use Rattle.report.proofs.report.Report.raise.Goals as goal

pub overflow_add-count : goal.overflow_add-count
overflow_add-count c =
    let before : c.in-Some.count.now ≡ unwrap_or (get nat_eq c.self.inside.counts c.args.key) 0 = search rules in
    let same : c.in-Some.count.now ≡ count_at c.args.self.now.counts c.args.key = before ∙ sym (count_seen c.self.inside.counts.entries c.args.key) ∙ ap (λ r. count_at r.counts c.args.key) c.self.view_is in
    let fits = c.requires.small in
    omega (arith, same, fits)

pub returns-in-Some : goal.returns-in-Some
returns-in-Some c =
    let through = c.get_mut.follows.holds (c.in-Some.count.now + c.args.n) in
    let some : IsSome (get nat_eq c.self.inside.counts c.args.key) = search rules in
    let before : c.in-Some.count.now ≡ unwrap_or (get nat_eq c.self.inside.counts c.args.key) 0 = search rules in
    more_seen c.self.inside.tool c.self.inside.counts.entries _ c.args.key c.args.n c.in-Some.count.now _ before refl (through.3 some).0 c.args.self.now c.self.view_is

-- there is a row
pub returns : goal.returns
returns c =
    let none : get nat_eq c.self.inside.counts c.args.key ≡ None = search rules in
    absurd (no_row c.self.inside.tool c.self.inside.counts.entries c.args.key c.args.self.now c.self.view_is none c.requires.row)
