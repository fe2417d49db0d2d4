use Rattle.std.proofs.Common.{◌≡◌, ◌≤◌, ◌+◌, ◌++◌, ◌∷◌, [], ap, subst, sym, ◌∙◌}
use Rattle.std.proofs.lemmas.Result.{on_ok_weaker}
use Rattle.probe_tools.specs.Rows.{AreRows, count_at, key_of, with_more}
use Rattle.probe_tools.proofs.Counting.{rows_more, count_most}
use Rattle.report.proofs.report.Report.add.Goals as goal

pub returns-clause-small : goal.returns-clause-small
returns-clause-small c = on_ok_weaker c.add_many.result (λ same key.
    let is : c.add_many.new.self.counts ≡ with_more (key_of c.args.event.now) 1 c.args.self.now.counts =
    ap (λ r. r.counts) same ∙ ap (λ k. with_more k 1 c.args.self.now.counts) c.key_of.ensures in
    subst (λ m. count_at m key ≤ count_at c.args.self.now.counts key + 1) (sym is) (count_most c.args.self.now.counts (key_of c.args.event.now) 1 key)) c.add_many.ensures.ok

pub returns-clause-rows : goal.returns-clause-rows
returns-clause-rows c = on_ok_weaker c.add_many.result (λ same events are.
    let is : c.add_many.new.self.counts ≡ with_more (key_of c.args.event.now) 1 c.args.self.now.counts =
    ap (λ r. r.counts) same ∙ ap (λ k. with_more k 1 c.args.self.now.counts) c.key_of.ensures in
    subst (λ m. AreRows (events ++ c.args.event.now ∷ []) m) (sym is) (rows_more events c.args.event.now c.args.self.now.counts are)) c.add_many.ensures.ok
