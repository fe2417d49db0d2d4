use Rattle.std.proofs.Common.{rules, ◌∙◌, ap}
use Rattle.hub_lock.proofs.Turns.{looks}
use Rattle.hub_lock.proofs.turn.Turn.look.Goals as goal

pub load-serving-requires : goal.load-serving-requires
load-serving-requires g c = (search rules, search rules, looks g.T.Kept.empty g.T.Kept.merged _ _ _ c.args.ticket (ap (λ m. m.0.stage) c.loop.invariant.1 ∙ c.requires.waits))
