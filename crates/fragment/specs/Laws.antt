-- What holds of the definitions.
use Rattle.std.specs.Prelude.{◌≡◌, ◌↔◌, ℕ, ◌+◌, ◌-◌, ◌*◌, ◌<◌, ◌≤◌, ◌⊎◌, List, ◌++◌, length, slice_index, take, drop, Some, None}
use Rattle.cc_base.specs.Image.{Code}
use Rattle.rv_decode.specs.declared.ins.Isa.{Isa}
use Rattle.probe_tools.specs.declared.tool.Tool.{Tool}
use Rattle.fragment.specs.Parts.{Parts}
use Rattle.fragment.specs.Build.{built, IsBuilt, IsFresh, CannotBuild}

-- a block is the value at an address exactly where it is the block there
abbrev pub BuiltIsBuilt : Type 0
BuiltIsBuilt = (code : Code) (address : ℕ) (isa : Isa) (tool : Tool) (max : ℕ) (block : Parts) → 0 < max →
    (built code address isa tool max ≡ Some block) ↔ (IsBuilt code isa tool max block × (block.address ≡ address))

-- there is none exactly where none can stand
abbrev pub NoneIsBuilt : Type 0
NoneIsBuilt = (code : Code) (address : ℕ) (isa : Isa) (tool : Tool) (max : ℕ) → (built code address isa tool max ≡ None) ↔ CannotBuild code address

-- a code has one block at an address
abbrev pub BlocksAreUnique : Type 0
BlocksAreUnique = (code : Code) (isa : Isa) (tool : Tool) (max : ℕ) (a b : Parts) → 0 < max →
    IsBuilt code isa tool max a → IsBuilt code isa tool max b → a.address ≡ b.address → a ≡ b

-- the byte at x
abbrev pub byte_in : Code → ℕ → ℕ
byte_in code x = slice_index code.bytes (x - code.start)

-- two codes in the same place, with the same bytes where the block's words are
pub record AreAlike (a b : Code) (block : Parts) : Type 0 where
  pub start : b.start ≡ a.start
  pub size : length b.bytes ≡ length a.bytes
  pub bytes : (x : ℕ) → block.address ≤ x → x < block.address + 4 * length block.words → byte_in b x ≡ byte_in a x

-- a block is fresh in both or in neither
abbrev pub Congruence : Type 0
Congruence = (a b : Code) (isa : Isa) (tool : Tool) (max : ℕ) (block : Parts) → 0 < max → AreAlike a b block →
    IsFresh a isa tool max block ↔ IsFresh b isa tool max block

-- no byte of the n from x on is the block's
abbrev pub IsBeside : ℕ → ℕ → Parts → Type 0
IsBeside x n block = (x + n ≤ block.address) ⊎ (block.address + 4 * length block.words ≤ x)

-- the code with these bytes from x on
abbrev pub overwritten : ℕ → List ℕ → Code → Code
overwritten x bytes code = record code { bytes = take (x - code.start) code.bytes ++ bytes ++ drop (x - code.start + length bytes) code.bytes }

-- other bytes, as many as before, of which those that differ are beside the block, keep it fresh; and so do bytes that
-- are written beside it
pub record Locality : Type 0 where
  pub changes : (code : Code) (bytes : List ℕ) (isa : Isa) (tool : Tool) (max : ℕ) (block : Parts) → 0 < max → length bytes ≡ length code.bytes →
      ((i : ℕ) → (slice_index bytes i ≡ slice_index code.bytes i) ⊎ IsBeside (code.start + i) 1 block) →
      IsFresh code isa tool max block → IsFresh (record code { bytes = bytes }) isa tool max block
  pub writes : (code : Code) (isa : Isa) (tool : Tool) (max : ℕ) (block : Parts) (x : ℕ) (bytes : List ℕ) → 0 < max →
      code.start ≤ x → x + length bytes ≤ code.start + length code.bytes → IsBeside x (length bytes) block →
      IsFresh code isa tool max block → IsFresh (overwritten x bytes code) isa tool max block

-- a block that is fresh is so for its own number of words as the most
abbrev pub OwnSizeIsEnough : Type 0
OwnSizeIsEnough = (code : Code) (isa : Isa) (tool : Tool) (max : ℕ) (block : Parts) → 0 < max →
    IsFresh code isa tool max block → IsFresh code isa tool (length block.words) block
