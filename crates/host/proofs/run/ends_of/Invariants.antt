use Rattle.std.proofs.Common.{◌≡◌, map}
use Rattle.host.proofs.run.ends_of.Given as goal

abbrev pub invariant-loop-ran : goal.invariant-loop-ran
invariant-loop-ran l = l.ends.items ≡ map (λ ran. ran.end) l.yielded
