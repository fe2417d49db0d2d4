-- The blocks of a unit, rising by address, and what an attach brings.
use Rattle.std.specs.Prelude.{◌≡◌, ℕ, ◌+◌, ◌<◌, ◌≤◌, ◌==◌, Bool, false, List, [], ◌∷◌, length, map, if◌then◌else◌, Option, Some, None}
use Rattle.std.specs.List.{list_any, flat_map}
use Rattle.std.specs.FinMap as fin
use Rattle.cc_base.specs.Image.{Code}
use Rattle.cc_base.specs.Span.{Range}
use Rattle.fragment.specs.Parts.{Parts}
use Rattle.fragment.specs.declared.Exit.{Exit}
use Rattle.fragment.specs.declared.Exit.TheVariants.{Direct, Indirect, Asks, Stop}
pub use Rattle.block_book.specs.Clauses.{blocks_of, IsClear, region_of}
use Rattle.block_ledger.specs.Ledger.{Ledger, Blocks, with_all, links_of, exit_at, is_live}
use Rattle.code_book.specs.Book.{IsShort, outside}

-- no live block begins in the region
abbrev pub IsClearOf : Range → Ledger → Type 0
IsClearOf region led = (a : ℕ) → outside region a ≡ false → is_live led a ≡ false

-- a block that begins in the region
pub record IsInside (region : Range) (f : Parts) : Type 0 where
  pub from : region.start ≤ f.address
  pub below : f.address < region.start + region.len
  pub short : IsShort f
  pub exits : length f.exits ≤ 2

-- the blocks begin in the region, each behind the one before
abbrev pub AreBlocks : Range → ℕ → List Parts → Type 0
AreBlocks region least [] = Unit {0}
AreBlocks region least (f ∷ fs) = (least ≤ f.address) × IsInside region f × AreBlocks region (f.address + 1) fs

-- a block is at the address
abbrev pub has : List Parts → ℕ → Bool
has fs a = list_any (λ f. f.address == a) fs

abbrev pub entries_of : List Parts → List (ℕ × Parts)
entries_of fs = map (λ f. (f.address, f)) fs

-- where an exit leads, if a block is there
abbrev pub target_in : List Parts → Option Exit → Option ℕ
target_in fs (Some (Direct to)) = if has fs to then Some to else None
target_in fs (Some Indirect) = None
target_in fs (Some (Asks to)) = None
target_in fs (Some Stop) = None
target_in fs None = None

-- exit x leads there
abbrev pub led_to : ℕ → Option ℕ → Ledger → Ledger
led_to x None led = led
led_to x (Some to) led = record led { links = fin.insert led.links x to }

-- ---- an attach, part by part

-- one block more
abbrev pub with_one : Parts → Ledger → Ledger
with_one f led = record led { shared = fin.insert led.shared f.address f }

abbrev pub with_blocks : List Parts → Ledger → Ledger
with_blocks fs led = record led { shared = with_all led.shared (entries_of fs) }

-- the exits of one block
abbrev pub with_exits : List Parts → Parts → Ledger → Ledger
with_exits all f led = record led { links = with_all led.links (links_of (blocks_of all) (exit_at f.address 0) f.exits) }

-- the exits of some of the blocks
abbrev pub with_links : List Parts → List Parts → Ledger → Ledger
with_links all fs led = record led { links = with_all led.links (flat_map (λ e. links_of (blocks_of all) (exit_at e.0 0) e.1.exits) (entries_of fs)) }
