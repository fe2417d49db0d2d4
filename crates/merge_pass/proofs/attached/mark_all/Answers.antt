use Rattle.std.proofs.Common.{◌≡◌, ◌+◌, ◌∙◌, sym, ap, arith, length, get_or}
use Rattle.std.specs.Prelude.{drop}
use Rattle.std.specs.FinSet as set
use Rattle.merge_pass.proofs.Lists.{drop-end}
use Rattle.merge_pass.proofs.Marking.{add_all, one-added, next-added, all-added}
use Rattle.merge_pass.proofs.attached.mark_all.Goals as goal

pub loop-i-preserved : goal.loop-i-preserved
loop-i-preserved c =
    ap (λ s. add_all s (drop (c.loop-i.i + 1) c.args.addrs.now)) (one-added c.loop-i.marks.keys c.insert.new.self.keys (get_or c.args.addrs.now c.loop-i.i 0) c.in_ok-insert.ensures.updates.0)
    ∙ next-added (set.from_list c.loop-i.marks.keys) c.args.addrs.now c.loop-i.i c.loop-i-test.true
    ∙ c.loop-i.invariant

pub returns : goal.returns
returns c =
    let end = c.loop-i.auto.i-end in
    let past = c.loop-i-test.false in
    let last : c.loop-i.i ≡ length c.args.addrs.now = omega (arith, end, past) in
    sym (ap (add_all (set.from_list c.loop-i.marks.keys)) (ap (λ n. drop n c.args.addrs.now) last ∙ drop-end c.args.addrs.now))
    ∙ c.loop-i.invariant
    ∙ all-added (set.from_list c.args.marks.now.keys) c.args.addrs.now
