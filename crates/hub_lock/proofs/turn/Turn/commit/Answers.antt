use Rattle.std.proofs.Common.{rules, subst}
use Rattle.hub_lock.specs.Steps.{MayCommit}
use Rattle.hub_lock.proofs.Commits.{commits}
use Rattle.hub_lock.proofs.turn.Turn.commit.Goals as goal

pub fetch_add-requires : goal.fetch_add-requires
fetch_add-requires g c =
    let here = c.requires.inside in
    let e = subst (λ b. MayCommit g.T.Kept.journal g.T.Kept.rule c.args.pass.now.me.0 c.args.value.now.value b) c.if-added.true c.requires.may in
    (search rules, search rules, commits _ _ _ _ c.args.value.now.value e.0 here.0.1 here.1 e.1 e.2)
