-- What a guest asks of the files and units that it shares with others.
use Rattle.std.specs.Prelude.{ℕ, ◌+◌, ◌/◌, ◌==◌, List, [], ◌∷◌, ◌++◌, filter, map, Option, Some, None}
use Rattle.std.specs.FinMap as fin
use Rattle.cc_base.specs.Image.{Code}
use Rattle.block_ledger.specs.Ledger.{Ledger, Segment, candidates, offered, segment_of}

pub data Request : Type 0 where
  -- the file of module k
  AsksFile : (k : ℕ) → Request
  -- the unit of segment i, as it is in file f
  AsksUnit : (i f : ℕ) → Request
  -- blocks that were built at these addresses are offered to the unit of segment i
  Offers : (i : ℕ) (addresses : List ℕ) → Request
  -- the unit of segment i is let go
  LetsGo : (i : ℕ) → Request
  -- module k is to be file f from now on
  MakesBe : (k f : ℕ) → Request

-- a request, and how many blocks had begun before it
pub record Asking : Type 0 where
  pub request : Request
  pub blocks : ℕ

abbrev pub asked_at : ℕ → Request → Asking
asked_at blocks r = record { request = r; blocks = blocks }

-- the units of the segments of module k, from number seg on, as they are in file f
abbrev pub unit_asks : ℕ → ℕ → ℕ → List Code → ℕ → List Asking
unit_asks k f seg [] blocks = []
unit_asks k f seg (code ∷ codes) blocks = asked_at blocks (AsksUnit (segment_of k seg) f) ∷ unit_asks k f (seg + 1) codes blocks

-- ---- offers

-- blocks at these addresses, if there are any
abbrev pub offer_some : ℕ → List ℕ → ℕ → List Asking
offer_some i [] blocks = []
offer_some i (a ∷ addresses) blocks = asked_at blocks (Offers i (a ∷ addresses)) ∷ []

abbrev pub offer_to : ℕ → Option Segment → Ledger → List Asking
offer_to i None led = []
offer_to i (Some seg) led = offer_some i (map (λ e. e.0) (candidates seg led)) led.counts.blocks

-- the candidates of a segment
abbrev pub offer : ℕ → Ledger → List Asking
offer i led = offer_to i (fin.get led.segments i) led

-- those of these segments, one after the other
abbrev pub offers : List ℕ → Ledger → List Asking
offers [] led = []
offers (i ∷ is) led = offer i led ++ offers is (offered i led)

-- ---- letting go

-- the candidates of a segment, and then it is let go
abbrev pub parting : ℕ → Ledger → List Asking
parting i led = offer i led ++ asked_at led.counts.blocks (LetsGo i) ∷ []

-- of these segments, one after the other
abbrev pub partings : List ℕ → Ledger → List Asking
partings [] led = []
partings (i ∷ is) led = parting i led ++ partings is (offered i led)

-- the attached segments of module k, rising
abbrev pub segments_of : ℕ → Ledger → List ℕ
segments_of k led = filter (λ i. i / 4 == k) (fin.keys led.segments)
