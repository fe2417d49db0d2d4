use Rattle.std.proofs.Common.{◌≡◌, ◌++◌}
use Rattle.std.specs.List.{filter_map}
use Rattle.guest_rounds.proofs.rounds.all_of.Given as goal

abbrev pub invariant-loop-answer : goal.invariant-loop-answer
invariant-loop-answer g l = l.all.items ++ filter_map (λ a. a) l.answer-iterator.rest.items ≡ filter_map (λ a. a) l.fn.answers.items
