-- The live blocks, by the pages that they meet.
use Rattle.std.specs.Prelude.{◌≡◌, ℕ, true, List, Some}
use Rattle.code_writes.specs.Meeting.{Lengths}
use Rattle.code_writes.specs.Block.{block, In, is_on}
use Rattle.code_writes.specs.declared.page.Block.{Block}

-- each page has just the live blocks that meet it
pub record IsIndex (live : Lengths) (pages : ℕ → List Block) : Type 0 where
  pub held : (p a len : ℕ) → live a ≡ Some len → is_on a len p ≡ true → In (block a len) (pages p)
  pub meets : (p : ℕ) (b : Block) → In b (pages p) → is_on b.addr b.len p ≡ true
  pub live_there : (p : ℕ) (b : Block) → In b (pages p) → live b.addr ≡ Some b.len
