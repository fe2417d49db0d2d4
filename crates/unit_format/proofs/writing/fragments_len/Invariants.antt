use Rattle.std.proofs.Common.{◌≡◌, ◌≤◌, ◌*◌, length, take}
use Rattle.std.specs.List.{flat_map}
use Rattle.unit_format.specs.declared.header.Version.TheVariants.{Two}
use Rattle.unit_format.specs.Text.{fragment_text}
use Rattle.unit_format.specs.Units.{tied}
use Rattle.unit_format.proofs.writing.fragments_len.Given as goal

abbrev pub invariant-loop-f : goal.invariant-loop-f
invariant-loop-f l = (l.len ≡ length (flat_map (λ f. fragment_text Two (tied l.u.frags f)) (take l.f-index l.f-items))) × (l.len ≤ 155 * l.f-index)
