use Rattle.std.proofs.Common.{◌≡◌, ◌+◌, IsSome, None, nat_eq, unwrap_or, rules, arith, refl, ap, sym, ◌∙◌}
use Rattle.std.specs.HashMap.{get}
use Rattle.probe_tools.specs.Rows.{count_at}
use Rattle.report.proofs.Counting.{count_seen, more_seen, no_row}
use Rattle.report.proofs.report.Report.add_many.Goals as goal

pub overflow_add-count : goal.overflow_add-count
overflow_add-count c =
    let before : c.in-Some.count.now ≡ unwrap_or (get nat_eq c.self.inside.counts c.args.key) 0 = search rules in
    let same : c.in-Some.count.now ≡ count_at c.args.self.now.counts c.args.key = before ∙ sym (count_seen c.self.inside.counts.entries c.args.key) ∙ ap (λ r. count_at r.counts c.args.key) c.self.view_is in
    let fits = c.requires in
    omega (arith, same, fits)

-- its count rises
pub returns-in-Some-clause-ok : goal.returns-in-Some-clause-ok
returns-in-Some-clause-ok c =
    let through = c.get_mut.follows.holds (c.in-Some.count.now + c.args.n) in
    let some : IsSome (get nat_eq c.self.inside.counts c.args.key) = search rules in
    let before : c.in-Some.count.now ≡ unwrap_or (get nat_eq c.self.inside.counts c.args.key) 0 = search rules in
    more_seen c.self.inside.tool c.self.inside.counts.entries _ c.args.key c.args.n c.in-Some.count.now _ before refl (through.3 some).0 c.args.self.now c.self.view_is

-- a key that had a row is not inserted
pub returns-in_err-insert-clause-certain : goal.returns-in_err-insert-clause-certain
returns-in_err-insert-clause-certain c some =
    let none : get nat_eq c.self.inside.counts c.args.key ≡ None = rw c.get_mut.follows.holds-at-none at c.in_err-insert.ensures.absent in
    absurd (no_row c.self.inside.tool c.self.inside.counts.entries c.args.key c.args.self.now c.self.view_is none some)

-- the key is new
pub returns-clause-ok : goal.returns-clause-ok
returns-clause-ok c =
    let before : 0 ≡ unwrap_or (get nat_eq c.self.inside.counts c.args.key) 0 = search rules in
    more_seen c.self.inside.tool c.self.inside.counts.entries c.insert.new.self.entries c.args.key c.args.n 0 c.args.n before (omega arith) (rw c.get_mut.follows.holds-at-none at c.in_ok-insert.ensures.updates.0) c.args.self.now c.self.view_is
