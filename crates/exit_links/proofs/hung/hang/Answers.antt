use Rattle.exit_links.proofs.Leading.{none-in, one-more}
use Rattle.exit_links.proofs.hung.hang.Goals as goal

pub put-requires-clause-in_no_list : goal.put-requires-clause-in_no_list
put-requires-clause-in_no_list c = none-in c.args.lists.now c.each_in_one_list.ensures c.args.exit c.requires.free

pub returns-clause-leads : goal.returns-clause-leads
returns-clause-leads c = one-more c.args.lists.now c.put.new.self c.each_in_one_list.ensures c.each_in_one_list-2.ensures c.args.exit c.args.to c.requires.free c.requires.to c.put.ensures
