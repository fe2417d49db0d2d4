use Rattle.region_laws.proofs.Replies.{calls-leave}
use Rattle.region_laws.proofs.laws.calls_leave.Goals as goal

pub returns : goal.returns
returns c = calls-leave
