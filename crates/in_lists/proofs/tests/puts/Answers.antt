use Rattle.std.proofs.Common.{◌≡◌, None, Some, sym, ◌∙◌}
use Rattle.in_lists.proofs.tests.puts.Goals as goal

pub put-requires-clause-in_no_list : goal.put-requires-clause-in_no_list
put-requires-clause-in_no_list g c = λ h inside. let clash : None ≡ Some h = sym c.in-None.is ∙ (c.head_of.ensures h).1 inside in cc
