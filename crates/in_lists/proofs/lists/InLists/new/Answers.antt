use Rattle.std.proofs.Common.{ap}
use Rattle.in_lists.specs.Lists.{incoming}
use Rattle.in_lists.proofs.Calls.{after_clear}
use Rattle.in_lists.proofs.lists.InLists.new.Goals as goal

pub invariant_of-result : goal.invariant_of-result
invariant_of-result c = (after_clear c.in_ok-nodes.nodes c.args.exits c.args.heads c.in_ok-nodes.ensures.1 c.in_ok-nodes.ensures.0).whole

pub returns : goal.returns
returns c =
    let now = after_clear c.in_ok-nodes.nodes c.args.exits c.args.heads c.in_ok-nodes.ensures.1 c.in_ok-nodes.ensures.0 in
    ap (incoming c.args.exits) now.same
