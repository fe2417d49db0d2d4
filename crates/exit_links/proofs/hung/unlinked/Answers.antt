use Rattle.exit_links.proofs.Pairs.{ok_led}
use Rattle.exit_links.proofs.hung.unlinked.Goals as goal

pub returns-clause-leads : goal.returns-clause-leads
returns-clause-leads c = ok_led c.new.result c.args.exits c.args.heads c.new.ensures
