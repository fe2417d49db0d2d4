-- A segment whose unit is attached, as it is kept.
use Rattle.std.specs.Prelude.{ℕ, List, [], map, refl, Option, Some, None}
use Rattle.std.specs.Ordering.{nat_cmp}
use Rattle.std.specs.FinSet as set
use Rattle.std.specs.FinMap as fin
use Rattle.std.specs.Coded.{Coded, code_by, coded×, coded_ℕ, coded_list}
use Rattle.block_ledger.specs.Ledger.{Segment}
use Rattle.unit_set.specs.Held.{Held, addresses}

-- the segment of a unit, of which blocks at these addresses were offered
abbrev pub segment_with : Held → List ℕ → Segment
segment_with unit offered = record { image = unit.image; addresses = set.from_list (addresses unit.frags); offered = set.from_list offered }

-- one to which nothing was offered yet
abbrev pub segment_for : Held → Segment
segment_for unit = segment_with unit []

abbrev Fields : Type 0
Fields = (ℕ × List ℕ) × (set.FinSet nat_cmp × set.FinSet nat_cmp)

abbrev set_code : Coded (set.FinSet nat_cmp)
set_code = set.code coded_ℕ

-- a segment is stored as its fields
abbrev pub segment_code : Coded Segment
segment_code =
    code_by Fields (coded× (coded× coded_ℕ (coded_list coded_ℕ)) (coded× set_code set_code))
    (λ s. ((s.image.start, s.image.bytes), (s.addresses, s.offered))) (λ p. record { image = record { start = p.0.0; bytes = p.0.1 }; addresses = p.1.0; offered = p.1.1 }) (λ _. refl)

-- blocks at these addresses were offered to it
abbrev pub with_marks : Segment → List ℕ → Segment
with_marks seg marks = record seg { offered = set.union seg.offered (set.from_list marks) }

abbrev pub marked : ℕ → List ℕ → Option Segment → fin.FinMap nat_cmp Segment → fin.FinMap nat_cmp Segment
marked i marks None m = m
marked i marks (Some seg) m = fin.insert m i (with_marks seg marks)
