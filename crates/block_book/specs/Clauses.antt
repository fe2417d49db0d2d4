-- What the calls of a book ask of blocks and units.
use Rattle.std.specs.Prelude.{◌≡◌, ℕ, ◌+◌, ◌*◌, ◌<◌, ◌≤◌, ◌&&◌, nat_le, nat_lt, true, false, List, length, map}
use Rattle.std.specs.FinMap as fin
use Rattle.cc_base.specs.Image.{Code}
use Rattle.cc_base.specs.Span.{Range}
use Rattle.fragment.specs.Parts.{Parts}
use Rattle.block_ledger.specs.Ledger.{Ledger, Blocks, is_live}

-- a block of 1 to 64 words that ends at an address
pub record IsShort (f : Parts) : Type 0 where
  pub some : 0 < length f.words
  pub few : length f.words ≤ 64
  pub ends : f.address + 4 * length f.words ≤ 4294967295

-- where a code lies
abbrev pub region_of : Code → Range
region_of image = record { start = image.start; len = length image.bytes }

-- no live block begins in the region of this code
abbrev pub IsClear : Code → Ledger → Type 0
IsClear image led = (a : ℕ) → (nat_le image.start a && nat_lt a (image.start + length image.bytes)) ≡ true → is_live led a ≡ false

-- the blocks, by address
abbrev pub blocks_of : List Parts → Blocks
blocks_of frags = fin.from_entries (map (λ f. (f.address, f)) frags)
