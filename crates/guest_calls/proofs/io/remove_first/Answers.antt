use Rattle.std.proofs.Common.{◌∙◌}
use Rattle.plain_machine.specs.Calls.{is_module}
use Rattle.guest_calls.proofs.Mapped.{without_none, without_at}
use Rattle.guest_calls.proofs.io.remove_first.Goals as goal

pub returns-in-Some : goal.returns-in-Some
returns-in-Some c = c.remove.ensures.items ∙ without_at (is_module c.args.module) _ c.in-Some.place c.remove.result (cc)

pub returns-in_default : goal.returns-in_default
returns-in_default c = without_none (is_module c.args.module) _ (cc)
