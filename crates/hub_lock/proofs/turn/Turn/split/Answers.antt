use Rattle.std.proofs.Common.{rules}
use Rattle.hub_lock.proofs.Parts.{splits}
use Rattle.hub_lock.proofs.turn.Turn.split.Goals as goal

pub split_seat-pass-requires : goal.split_seat-pass-requires
split_seat-pass-requires g c = (search rules, search rules, splits g.T.Kept.empty _ _ (search rules))
