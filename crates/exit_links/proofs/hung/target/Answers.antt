use Rattle.exit_links.proofs.Leading.{leads-is}
use Rattle.exit_links.proofs.hung.target.Goals as goal

pub returns : goal.returns
returns c = leads-is c.args.lists.now c.each_in_one_list.ensures c.args.exit c.head_of.result c.head_of.ensures
