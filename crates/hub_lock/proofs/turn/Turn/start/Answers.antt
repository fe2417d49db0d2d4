use Rattle.std.proofs.Common.{◌≡◌, rules, ap, sym, subst, ◌∷◌, [], Some, List}
use Rattle.std.specs.Prelude.{Option}
use Rattle.atomic_table.specs.Table.{opening}
use Rattle.hub_lock.specs.Rule.{Orderly}
use Rattle.hub_lock.specs.Steps.{beginner}
use Rattle.hub_lock.proofs.Ends.{begins}
use Rattle.hub_lock.proofs.turn.Turn.start.Goals as goal

pub new-requires : goal.new-requires
new-requires g c =
    let o = g.T.Kept.opening c.of-key.result.value in
    let is : c.of-key.result.value ≡ c.args.value = search rules in
    let slots : c.push_reserved.new.self.items ≡ Some c.args.value ∷ [] = search rules in
    subst (λ (l : List (Option g.row.T.Denot)). Orderly g.T.Kept.opening g.T.Kept.journal g.T.Kept.rule o (opening (0 ∷ 0 ∷ 0 ∷ []) l (beginner {E = g.row.T-Entry.Denot} o))) (sym slots)
    (begins g.T.Kept.empty c.args.value (ap g.T.Kept.opening (sym is)) c.requires)
