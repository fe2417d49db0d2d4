use Rattle.exit_links.proofs.Leading.{taken-none, taken-led, taken-cut}
use Rattle.exit_links.proofs.hung.take_to.Goals as goal

pub returns-clause-none : goal.returns-clause-none
returns-clause-none c = taken-none c.args.lists.now c.take_first-first.new.self c.args.to c.each_in_one_list.ensures c.each_in_one_list-2.ensures c.requires c.take_first-first.ensures.lists c.take_first-first.result c.take_first-first.ensures.value

pub returns-clause-led : goal.returns-clause-led
returns-clause-led c = taken-led c.args.lists.now c.take_first-first.new.self c.args.to c.each_in_one_list.ensures c.each_in_one_list-2.ensures c.requires c.take_first-first.ensures.lists c.take_first-first.result c.take_first-first.ensures.value

pub returns-clause-leads : goal.returns-clause-leads
returns-clause-leads c = taken-cut c.args.lists.now c.take_first-first.new.self c.args.to c.each_in_one_list.ensures c.each_in_one_list-2.ensures c.requires c.take_first-first.ensures.lists c.take_first-first.result c.take_first-first.ensures.value
