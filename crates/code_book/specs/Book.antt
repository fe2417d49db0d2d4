-- The book of a process, and the ledger that it keeps.
use Rattle.std.specs.Prelude.{◌≡◌, ℕ, ◌+◌, ◌*◌, ◌<◌, ◌≤◌, ◌&&◌, not, nat_le, nat_lt, Bool, true, false, is_some, List, length, get_or, Option, Some, None}
use Rattle.std.specs.Option.{option_map}
use Rattle.std.specs.Ordering.{nat_cmp}
use Rattle.std.specs.FinMap as fin
use Rattle.cc_base.specs.Span.{Range}
use Rattle.exit_links.specs.Linked.{Linked}
use Rattle.fragment.specs.Parts.{Parts}
pub use Rattle.block_book.specs.Clauses.{IsShort}
use Rattle.block_ledger.specs.Ledger.{Ledger, Segment, Counts, exit_at, view, linked_by, is_private, only}
use Rattle.code_book.specs.Tables.{Held, Tables, and_then, leads, tabulated, exits_of, block_at, link_at}
use Rattle.code_writes.specs.Meeting.{AreShort}
use Rattle.code_book.specs.Keeping.{AreTied}

-- addresses and their places, and what lies in each place
pub record Placed : Type 0 where
  pub place : fin.FinMap nat_cmp ℕ
  pub slots : List (Option Held)

pub record Book : Type 0 where
  pub segments : fin.FinMap nat_cmp Segment
  pub places : Placed
  -- where each exit leads
  pub links : Linked
  -- the length of each live block
  pub lens : fin.FinMap nat_cmp ℕ
  -- the block begun last, its place, and the exit by which it was left
  pub block : ℕ
  pub here : Option ℕ
  pub left : Option ℕ
  pub own : ℕ
  pub counts : Counts

abbrev pub tables_of : Placed → Linked → Tables
tables_of placed links = record { place = fin.get placed.place; held = λ p. get_or placed.slots p None; next = leads links }

abbrev pub tables : Book → Tables
tables k = tables_of k.places k.links

abbrev pub live : Book → List ℕ
live k = fin.keys k.places.place

abbrev pub ledger : Book → Ledger
ledger k = record {
  segments = k.segments;
  shared = tabulated (live k) (block_at (tables k) true);
  private = tabulated (live k) (block_at (tables k) false);
  links = tabulated (exits_of (live k)) (link_at (tables k));
  block = k.block;
  left = option_map (exit_at k.block) k.left;
  counts = k.counts;
}

-- where the exit leads by which the block begun last was left, if that has a place still
abbrev pub next_of : Book → Option ℕ
next_of k = and_then k.here (λ p. and_then k.left (λ e. leads k.links (2 * p + e)))

abbrev pub size_of : Parts → ℕ
size_of f = 4 * length f.words

pub record IsKept (k : Book) : Type 0 where
  pub tied : AreTied (tables k)
  pub here : k.here ≡ fin.get k.places.place k.block
  pub covers : (a : ℕ) → fin.get k.lens a ≡ option_map size_of (view (ledger k) a)
  pub short : AreShort (fin.get k.lens)
  pub own : k.own ≡ fin.len (ledger k).private
  pub left : (e : ℕ) → k.left ≡ Some e → e < 2
  -- the links have the place of each block
  pub room : (p : ℕ) → is_some ((tables k).held p) ≡ true → p < k.links.places
  pub counts : (k.counts.reused ≤ k.counts.blocks) × (k.counts.built ≤ k.counts.blocks) × (k.counts.linked ≤ k.counts.blocks) × (k.own ≤ k.counts.built)

-- the book that these fields are
abbrev pub book : fin.FinMap nat_cmp Segment → fin.FinMap nat_cmp ℕ → List (Option Held) → Linked → fin.FinMap nat_cmp ℕ → ℕ → Option ℕ → Option ℕ → ℕ → ℕ → ℕ → ℕ → ℕ → Book
book segments index slots links lens block here left own blocks reused built linked = record {
  segments = segments;
  places = record { place = index; slots = slots };
  links = links;
  lens = lens;
  block = block;
  here = here;
  left = left;
  own = own;
  counts = record { blocks = blocks; reused = reused; built = built; linked = linked };
}

-- the exit by which the block before was left leads to the address, whose block is the one begun last
abbrev pub gone_on : ℕ → Ledger → Ledger
gone_on a led = let after = linked_by led.left a led in record after { block = a; left = None }

-- the private blocks go
abbrev pub spared : Ledger → Ledger
spared led = only (λ a. not (is_private led a)) led

-- the address is not in the region
abbrev pub outside : Range → ℕ → Bool
outside region a = not (nat_le region.start a && nat_lt a (region.start + region.len))
