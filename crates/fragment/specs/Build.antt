-- The block at an address of a code.
use Rattle.std.specs.Prelude.{◌≡◌, ℕ, zero, suc, ◌+◌, ◌-◌, ◌*◌, ◌%◌, ◌<◌, ◌≤◌, ◌⊎◌, ◌==◌, ◌&&◌, ◌||◌, not, nat_le, Bool, true, false, if◌then◌else◌, List, length, map, take, drop, slice_index, Option, Some, None}
use Rattle.std.specs.List.{range_with_len}
use Rattle.cc_base.specs.Image.{Code}
use Rattle.rv_decode.specs.declared.ins.Isa.{Isa}
use Rattle.rv_decode.specs.Table.{instruction}
use Rattle.plain_machine.specs.Memory.{number_of}
use Rattle.plain_machine.specs.Cut.{ends_block}
use Rattle.probe_tools.specs.declared.tool.Tool.{Tool}
use Rattle.fragment.specs.Parts.{Parts}
use Rattle.fragment.specs.Exits.{exits_of}
use Rattle.fragment.specs.Probing.{probes_of}

-- ---- the words of a code

-- the four bytes from x on are in the code
abbrev pub has_word : Code → ℕ → Bool
has_word code x = nat_le code.start x && nat_le (x + 4) (code.start + length code.bytes)

-- the number that they spell, the lowest byte first
abbrev pub word_in : Code → ℕ → ℕ
word_in code x = number_of (take 4 (drop (x - code.start) code.bytes))

-- the word at x, where it is wholly in the code
abbrev pub word_at : Code → ℕ → Option ℕ
word_at code x = if has_word code x then Some (word_in code x) else None

-- n words from x on
abbrev pub words_at : Code → ℕ → ℕ → List ℕ
words_at code x n = map (λ i. word_in code (x + 4 * i)) (range_with_len 0 n)

abbrev pub last : List ℕ → ℕ
last words = slice_index words (length words - 1)

-- ---- the block, as a value

-- A block of k words from a on may end there: its last word ends it, or it may have no more words, or the next word is
-- not wholly in the code.
abbrev pub may_end : Code → ℕ → Isa → ℕ → ℕ → Bool
may_end code a isa max k = ends_block (instruction isa (word_in code (a + 4 * (k - 1)))) || (k == max) || not (has_word code (a + 4 * k))

-- the least number from k on that passes, of at most `more` further ones
abbrev pub least : (ℕ → Bool) → ℕ → ℕ → ℕ
least test k zero = k
least test k (suc more) = if test k then k else least test (k + 1) more

-- how many words the block has: the least number of at least 1 at which it may end
unfoldable pub size_at : Code → ℕ → Isa → ℕ → ℕ
size_at code a isa max = least (may_end code a isa max) 1 (max - 1)

-- a block can stand at a
abbrev pub can_build : Code → ℕ → Bool
can_build code a = (a % 4 == 0) && has_word code a

-- the block of these words
abbrev pub block_of : ℕ → Isa → Tool → List ℕ → Parts
block_of a isa tool words = record {
  address = a;
  words = words;
  probes = probes_of tool isa words;
  exits = exits_of (a + 4 * (length words - 1)) (instruction isa (last words));
}

-- the block that a tool has at an address of a code, of at most max words
unfoldable pub built : Code → ℕ → Isa → Tool → ℕ → Option Parts
built code a isa tool max = if can_build code a then Some (block_of a isa tool (words_at code a (size_at code a isa max))) else None

-- the block is the one that is built there
abbrev pub IsFresh : Code → Isa → Tool → ℕ → Parts → Type 0
IsFresh code isa tool max block = built code block.address isa tool max ≡ Some block

-- ---- the same, as a relation

-- The block at its address, of at most max words: the fewest words, one at least, behind which something stops it.
pub record IsBuilt (code : Code) (isa : Isa) (tool : Tool) (max : ℕ) (block : Parts) : Type 0 where
  pub aligned : block.address % 4 ≡ 0
  pub not_empty : 0 < length block.words
  pub at_most : length block.words ≤ max
  pub words : (i : ℕ) → i < length block.words → word_at code (block.address + 4 * i) ≡ Some (slice_index block.words i)
  pub inner : (i : ℕ) → i + 1 < length block.words → ends_block (instruction isa (slice_index block.words i)) ≡ false
  pub stopped : (ends_block (instruction isa (last block.words)) ≡ true) ⊎ (length block.words ≡ max)
      ⊎ (word_at code (block.address + 4 * length block.words) ≡ None)
  pub probes : block.probes ≡ probes_of tool isa block.words
  pub exits : block.exits ≡ exits_of (block.address + 4 * (length block.words - 1)) (instruction isa (last block.words))

-- no block can stand there
abbrev pub CannotBuild : Code → ℕ → Type 0
CannotBuild code address = (address % 4 ≡ 0 → ⊥) ⊎ (word_at code address ≡ None)
