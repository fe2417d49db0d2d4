-- Which live blocks a span meets.
use Rattle.std.specs.Prelude.{◌≡◌, ℕ, ◌+◌, ◌<◌, ◌≤◌, nat_lt, max, min, Bool, true, false, Option, Some, None}

-- live addresses, each with the length of its block in bytes
abbrev pub Lengths : Type 0
Lengths = ℕ → Option ℕ

-- the n bytes from x on and the len bytes from a on have a byte in common
abbrev pub meets : ℕ → ℕ → ℕ → ℕ → Bool
meets x n a len = nat_lt (max a x) (min (a + len) (x + n))

-- no block from low on meets the span
abbrev pub NoneMeets : Lengths → ℕ → ℕ → ℕ → Type 0
NoneMeets live x n low = (a len : ℕ) → low ≤ a → live a ≡ Some len → meets x n a len ≡ false

-- no block from low on and below high does
abbrev pub NoneBelow : Lengths → ℕ → ℕ → ℕ → ℕ → Type 0
NoneBelow live x n low high = (a len : ℕ) → low ≤ a → a < high → live a ≡ Some len → meets x n a len ≡ false

-- the block at a is live and meets the span, and is the first from low on that does
pub record IsFirst (live : Lengths) (x n low a : ℕ) : Type 0 where
  pub from : low ≤ a
  pub len : ℕ
  pub here : live a ≡ Some len
  pub met : meets x n a len ≡ true
  pub first : NoneBelow live x n low a

abbrev pub Answers : Lengths → ℕ → ℕ → ℕ → Option ℕ → Type 0
Answers live x n low None = NoneMeets live x n low
Answers live x n low (Some a) = IsFirst live x n low a

-- each block has 1 to 256 bytes, of which none is past the last address
abbrev pub AreShort : Lengths → Type 0
AreShort live = (a len : ℕ) → live a ≡ Some len → (0 < len) × (len ≤ 256) × (a + len ≤ 4294967295)
