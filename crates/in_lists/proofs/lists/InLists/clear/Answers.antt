use Rattle.std.proofs.Common.{length, ap, ◌∙◌}
use Rattle.in_lists.specs.Lists.{incoming, all_empty}
use Rattle.in_lists.specs.Linked.{lists_of}
use Rattle.in_lists.proofs.Calls.{after_clear}
use Rattle.in_lists.proofs.lists.InLists.clear.Goals as goal

pub invariant_of-self : goal.invariant_of-self
invariant_of-self c =
    let exits = c.self.inside.exits in let heads = length (lists_of c.self.inside.nodes exits) in
    (after_clear c.isolate.new.self exits heads c.isolate.ensures.1 (c.isolate.ensures.0 ∙ c.self.invariant.count)).whole

pub returns : goal.returns
returns c =
    let exits = c.self.inside.exits in let heads = length (lists_of c.self.inside.nodes exits) in
    ap (incoming exits) (after_clear c.isolate.new.self exits heads c.isolate.ensures.1 (c.isolate.ensures.0 ∙ c.self.invariant.count)).same
    ∙ ap (λ v. all_empty v.exits (length v.lists)) c.self.view_is
