use Rattle.std.proofs.Common.{length}
use Rattle.exit_links.proofs.Pairs.{none-led}
use Rattle.exit_links.proofs.hung.cut_all.Goals as goal

pub returns-clause-leads : goal.returns-clause-leads
returns-clause-leads c = none-led c.clear.new.self c.args.lists.now.exits (length c.args.lists.now.lists) c.clear.ensures
