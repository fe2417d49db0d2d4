use Rattle.map_laws.proofs.Answering.{replace-is-answered}
use Rattle.map_laws.proofs.laws.a_replace_call_is_answered.Goals as goal

pub returns : goal.returns
returns c = replace-is-answered
