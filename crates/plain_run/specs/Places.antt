-- Where a region lies.
use Rattle.std.specs.Prelude.{◌≡◌, length, Option, Some, None}
use Rattle.cc_base.specs.Span.{Range}
use Rattle.plain_machine.specs.Region.{Area}

-- the addresses, if any are given, are those of the region, if there is one
abbrev pub LiesAt : Option Range → Option Area → Type 0
LiesAt None None = Unit {0}
LiesAt (Some span) (Some r) = (span.start ≡ r.start) × (span.len ≡ length r.bytes)
LiesAt None (Some r) = ⊥
LiesAt (Some span) None = ⊥
