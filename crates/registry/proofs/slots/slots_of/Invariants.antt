use Rattle.std.proofs.Common.{◌≡◌, ◌++◌, drop, map, option_map}
use Rattle.std.specs.Arc.{arc_value}
use Rattle.registry.specs.Content.{content_of}
use Rattle.registry.specs.Registry.{slots_opened}
use Rattle.registry.proofs.slots.slots_of.Given as goal

abbrev pub invariant-loop-i : goal.invariant-loop-i
invariant-loop-i l = l.slots.items ++ slots_opened (map (option_map (λ u. content_of (arc_value u))) (drop l.i l.found)) (drop l.i l.shut) ≡ slots_opened (map (option_map (λ u. content_of (arc_value u))) l.fn.found) l.fn.shut
