use Rattle.std.proofs.Common.{◌≡◌, ◌≤◌, length, take}
use Rattle.fragment.specs.Probing.{probes_before}
use Rattle.fragment.proofs.same.are_probes.Given as goal

abbrev pub invariant-loop-place : goal.invariant-loop-place
invariant-loop-place l = record {
  within : l.next ≤ length l.probes;
  same : take l.next l.probes ≡ probes_before l.tool l.isa l.words l.place;
}
