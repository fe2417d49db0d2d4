use Rattle.std.proofs.Common.{subst}
use Rattle.in_lists.specs.Lists.{IsKept}
use Rattle.in_lists.specs.Linked.{lists_of}
use Rattle.in_lists.proofs.Keeping.{kept}
use Rattle.in_lists.proofs.lists.InLists.each_in_one_list.Goals as goal

pub returns : goal.returns
returns c =
    let ns = c.self.inside.nodes in let exits = c.self.inside.exits in
    subst IsKept c.self.view_is (kept ns exits (lists_of ns exits) c.self.invariant)
