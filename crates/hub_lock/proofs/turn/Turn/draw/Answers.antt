use Rattle.std.proofs.Common.{rules, refl, ◌∙◌, ap, subst, sym, ◌<◌}
use Rattle.hub_lock.proofs.Turns.{draws}
use Rattle.hub_lock.proofs.turn.Turn.draw.Goals as goal

pub compare_exchange-found-requires : goal.compare_exchange-found-requires
compare_exchange-found-requires g c = let same = c.loop.invariant.1 in let out = c.requires.outside in
    (search rules, search rules, draws _ _ _ _ _ (ap (λ m. m.0.stage) same ∙ out.0) (subst (λ m. 0 < m.0.parts) (sym same) out.2) refl (search rules))
