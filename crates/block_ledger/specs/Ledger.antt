-- The ledger of a process: which blocks stand ready, which exits lead on without a search, and four counts. It has one
-- function for each thing that happens.
use Rattle.std.specs.Prelude.{ℕ, ◌+◌, ◌-◌, ◌*◌, ◌/◌, ◌==◌, ◌&&◌, not, Bool, true, false, nat_lt, nat_le, max, min, if◌then◌else◌, List, [], ◌∷◌, ◌++◌, length, take, filter, map, is_some, Option, Some, None}
use Rattle.std.specs.List.{flat_map, list_any}
use Rattle.std.specs.Option.{option_or}
use Rattle.std.specs.Ordering.{nat_cmp}
use Rattle.std.specs.FinMap as fin
use Rattle.std.specs.FinSet as set
use Rattle.cc_base.specs.Image.{Code}
use Rattle.cc_base.specs.Span.{Range}
use Rattle.fragment.specs.Parts.{Parts}
use Rattle.fragment.specs.Build.{word_at}
use Rattle.fragment.specs.declared.Exit.{Exit}
use Rattle.fragment.specs.declared.Exit.TheVariants.{Direct, Indirect, Asks, Stop}

pub record Counts : Type 0 where
  -- how often a block began
  pub blocks : ℕ
  -- how often one of an attached unit did
  pub reused : ℕ
  -- how many blocks were built
  pub built : ℕ
  -- how often a link led to the block that began
  pub linked : ℕ

-- a segment whose unit is attached
pub record Segment : Type 0 where
  -- its place, and its bytes as first mapped
  pub image : Code
  -- where the unit has blocks
  pub addresses : set.FinSet nat_cmp
  -- where blocks were offered to it
  pub offered : set.FinSet nat_cmp

-- blocks by address
abbrev pub Blocks : Type 0
Blocks = fin.FinMap nat_cmp Parts

pub record Ledger : Type 0 where
  -- by number
  pub segments : fin.FinMap nat_cmp Segment
  -- the blocks of the attached units, but for those withdrawn
  pub shared : Blocks
  -- the blocks that the process built; none stands at an address of `shared`
  pub private : Blocks
  -- for each exit that is linked the address that it leads to
  pub links : fin.FinMap nat_cmp ℕ
  -- the block begun last, and the exit by which it was left, if the next begin may link it
  pub block : ℕ
  pub left : Option ℕ
  pub counts : Counts

-- the number of segment seg of module k
abbrev pub segment_of : ℕ → ℕ → ℕ
segment_of k seg = 4 * k + seg

-- the number of exit e of the block at a, and the address of an exit's block
abbrev pub exit_at : ℕ → ℕ → ℕ
exit_at a e = 2 * a + e

abbrev pub source : ℕ → ℕ
source x = x / 2

-- ---- what is live

-- the block that stands ready at an address
abbrev pub view : Ledger → ℕ → Option Parts
view led a = option_or (fin.get led.shared a) (fin.get led.private a)

abbrev pub is_live : Ledger → ℕ → Bool
is_live led a = is_some (view led a)

abbrev pub is_shared : Ledger → ℕ → Bool
is_shared led a = is_some (fin.get led.shared a)

abbrev pub is_private : Ledger → ℕ → Bool
is_private led a = is_some (fin.get led.private a)

-- a begin there finds no room for a block of its own, where the pool has so many
abbrev pub wants_room : ℕ → Ledger → ℕ → Bool
wants_room pool led a = not (is_live led a) && nat_le pool (fin.len led.private)

-- ---- what goes

abbrev pub leads_to : (ℕ → Bool) → Option ℕ → Bool
leads_to stays None = false
leads_to stays (Some to) = stays to

-- the link comes from and leads to what stays
abbrev pub link_stays : (ℕ → Bool) → Ledger → ℕ → Bool
link_stays stays led x = stays (source x) && leads_to stays (fin.get led.links x)

-- the addresses that fail the test go, with all links from them and to them
abbrev pub only : (ℕ → Bool) → Ledger → Ledger
only stays led = record led {
  shared = fin.retain_keys led.shared stays;
  private = fin.retain_keys led.private stays;
  links = fin.retain_keys led.links (link_stays stays led);
}

-- the block has a byte of the span
abbrev pub has_some : Range → Parts → Bool
has_some span f = nat_lt (max f.address span.start) (min (f.address + 4 * length f.words) (span.start + span.len))

abbrev pub is_clear : Range → Option Parts → Bool
is_clear span None = true
is_clear span (Some f) = not (has_some span f)

-- bytes of code are written at this span: the blocks that meet it are withdrawn
abbrev pub written : Range → Ledger → Ledger
written span led = only (λ a. is_clear span (view led a)) led

-- the address is in one of the codes
abbrev pub is_within : ℕ → List Code → Bool
is_within a codes = list_any (λ c. nat_le c.start a && nat_lt a (c.start + length c.bytes)) codes

-- module k goes, with the code that it has here
abbrev pub unmapped : ℕ → List Code → Ledger → Ledger
unmapped k codes led = let rest = only (λ a. not (is_within a codes)) led in record rest { segments = fin.retain_keys rest.segments (λ i. not (i / 4 == k)) }

-- the private blocks go, and the next begin links nothing
abbrev pub flushed : Ledger → Ledger
flushed led = let rest = only (λ a. not (is_private led a)) led in record rest { left = None }

-- ---- what comes with a unit

-- the links among its own blocks of these exits, numbered from x on
abbrev pub links_of : Blocks → ℕ → List Exit → List (ℕ × ℕ)
links_of unit x [] = []
links_of unit x (Direct to ∷ exits) = if is_some (fin.get unit to) then (x, to) ∷ links_of unit (x + 1) exits else links_of unit (x + 1) exits
links_of unit x (Indirect ∷ exits) = links_of unit (x + 1) exits
links_of unit x (Asks to ∷ exits) = links_of unit (x + 1) exits
links_of unit x (Stop ∷ exits) = links_of unit (x + 1) exits

-- of a key that stands twice the entry counts
abbrev pub with_all : {X : Type 0} → fin.FinMap nat_cmp X → List (ℕ × X) → fin.FinMap nat_cmp X
with_all m entries = fin.from_entries (entries ++ fin.entries m)

-- segment number i is attached, with the blocks of its unit
abbrev pub attached : ℕ → Code → Blocks → Ledger → Ledger
attached i image unit led = record led {
  segments = fin.insert led.segments i (record { image = image; addresses = set.from_list (fin.keys unit); offered = set.empty });
  shared = with_all led.shared (fin.entries unit);
  links = with_all led.links (flat_map (λ e. links_of unit (exit_at e.0 0) e.1.exits) (fin.entries unit));
}

-- ---- candidates

abbrev pub is_value : ℕ → Option ℕ → Bool
is_value w None = false
is_value w (Some v) = v == w

-- the image has these words from x on
abbrev pub spells : Code → ℕ → List ℕ → Bool
spells image x [] = true
spells image x (w ∷ words) = is_value w (word_at image x) && spells image (x + 4) words

-- a private block that the segment's unit could have, and that was not offered
abbrev pub is_candidate : Segment → ℕ × Parts → Bool
is_candidate seg (a, f) = is_within a (seg.image ∷ []) && spells seg.image a f.words && not (set.contains seg.addresses a) && not (set.contains seg.offered a)

-- in rising order, the least ones only, so that no more than 16,384 are offered to one unit
abbrev pub candidates : Segment → Ledger → List (ℕ × Parts)
candidates seg led = take (16384 - set.len seg.offered) (filter (is_candidate seg) (fin.entries led.private))

abbrev pub with_offered : Segment → List (ℕ × Parts) → Segment
with_offered seg blocks = record seg { offered = set.union seg.offered (set.from_list (map (λ e. e.0) blocks)) }

-- the candidates of a segment are offered to its unit
abbrev pub offered_to : ℕ → Option Segment → Ledger → Ledger
offered_to i None led = led
offered_to i (Some seg) led = record led { segments = fin.insert led.segments i (with_offered seg (candidates seg led)) }

abbrev pub offered : ℕ → Ledger → Ledger
offered i led = offered_to i (fin.get led.segments i) led

-- those of these segments, one after the other
abbrev pub all_offered : List ℕ → Ledger → Ledger
all_offered [] led = led
all_offered (i ∷ is) led = all_offered is (offered i led)

-- ---- a block

-- how the block begun last is left: through which of its exits, if the next begin may link it
abbrev pub left_by : Option ℕ → Ledger → Ledger
left_by None led = record led { left = None }
left_by (Some e) led = record led { left = Some (exit_at led.block e) }

-- the exit by which the block before was left leads to the address
abbrev pub linked_by : Option ℕ → ℕ → Ledger → Ledger
linked_by None a led = led
linked_by (Some x) a led =
    if is_some (fin.get led.links x) then record led { counts = record led.counts { linked = led.counts.linked + 1 } }
    else if is_live led (source x) then record led { links = fin.insert led.links x a }
    else led

-- the block is found, and built where it is not live
abbrev pub found : Parts → Ledger → Ledger
found f led =
    if is_shared led f.address then record led { counts = record led.counts { reused = led.counts.reused + 1 } }
    else if is_private led f.address then led
    else record led { private = fin.insert led.private f.address f; counts = record led.counts { built = led.counts.built + 1 } }

abbrev pub counted : Ledger → Ledger
counted led = record led { counts = record led.counts { blocks = led.counts.blocks + 1 } }

-- the block begins, where there is room for it
abbrev pub begun : Parts → Ledger → Ledger
begun f led = let after = linked_by led.left f.address (found f (counted led)) in record after { block = f.address; left = None }

-- nothing has happened
abbrev pub new_ledger : Ledger
new_ledger = record {
  segments = fin.empty;
  shared = fin.empty;
  private = fin.empty;
  links = fin.empty;
  block = 0;
  left = None;
  counts = record { blocks = 0; reused = 0; built = 0; linked = 0 };
}
