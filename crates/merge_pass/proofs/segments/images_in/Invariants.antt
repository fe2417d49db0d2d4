use Rattle.std.proofs.Common.{◌≡◌, ◌++◌, map}
use Rattle.std.specs.BTreeMap.{values}
use Rattle.block_ledger.specs.Ledger.{Segment}
use Rattle.merge_pass.proofs.segments.images_in.Given as goal

abbrev pub invariant-loop-segment : goal.invariant-loop-segment
invariant-loop-segment l = l.images.items ++ map (λ (s : Segment). s.image) l.segment-iterator ≡ map (λ (s : Segment). s.image) (values l.fn.segments)
