-- Blocks in a list, and which of them a span meets first.
use Rattle.std.specs.Prelude.{◌≡◌, ℕ, ◌+◌, ◌*◌, ◌≤◌, ◌==◌, ◌&&◌, ◌⊎◌, nat_lt, nat_le, min, not, filter, Bool, true, false, List, [], ◌∷◌, Option, Some, None}
use Rattle.code_writes.specs.Meeting.{meets}
use Rattle.code_writes.specs.declared.page.Block.{Block}

abbrev pub block : ℕ → ℕ → Block
block addr len = record { addr = addr; len = len }

-- the block stands in the list
abbrev pub In : Block → List Block → Type 0
In b [] = ⊥
In b (c ∷ cs) = (b ≡ c) ⊎ In b cs

-- the list without what begins at the address
abbrev pub without : ℕ → List Block → List Block
without addr bs = filter (λ b. not (b.addr == addr)) bs

-- the block begins at low or behind, and meets the n bytes from x on
unfoldable pub passes : ℕ → ℕ → ℕ → Block → Bool
passes x n low b = nat_le low b.addr && meets x n b.addr b.len

abbrev pub least_of : Option ℕ → ℕ → ℕ
least_of None a = a
least_of (Some b) a = min b a

-- a block of the list passes the test and begins at a, and none that passes begins before
pub record IsLeastIn (test : Block → Bool) (bs : List Block) (a : ℕ) : Type 0 where
  pub found : (b : Block) × In b bs × (b.addr ≡ a) × (test b ≡ true)
  pub least : (b : Block) → In b bs → test b ≡ true → a ≤ b.addr

-- the least address at which a block of the list passes the test
abbrev pub FirstIn : (Block → Bool) → List Block → Option ℕ → Type 0
FirstIn test bs None = (b : Block) → In b bs → test b ≡ false
FirstIn test bs (Some a) = IsLeastIn test bs a

-- the block of len bytes at addr has a byte in the page p, which has the 256 bytes from 256 * p on
unfoldable pub is_on : ℕ → ℕ → ℕ → Bool
is_on addr len p = nat_lt (p * 256) (addr + len) && nat_lt addr (p * 256 + 256)
