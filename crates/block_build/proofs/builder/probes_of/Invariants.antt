use Rattle.std.proofs.Common.{◌≡◌}
use Rattle.fragment.specs.Probing.{probes_before}
use Rattle.block_build.proofs.builder.probes_of.Given as goal

abbrev pub invariant-loop-place : goal.invariant-loop-place
invariant-loop-place l = l.probes.items ≡ probes_before l.tool l.isa l.words l.place
