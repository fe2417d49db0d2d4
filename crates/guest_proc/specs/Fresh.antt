-- What stands ready is what would be built.
use Rattle.std.specs.Prelude.{◌≡◌, ℕ, true, is_some, length, Option, Some, None}
use Rattle.std.specs.FinMap as fin
use Rattle.std.specs.FinSet as set
use Rattle.cc_base.specs.Image.{Code}
use Rattle.cc_base.specs.Span.{Range}
use Rattle.rv_decode.specs.declared.ins.Isa.{Isa}
use Rattle.probe_tools.specs.declared.tool.Tool.{Tool}
use Rattle.plain_machine.specs.Memory.{Memory, code_at}
use Rattle.fragment.specs.Parts.{Parts}
use Rattle.fragment.specs.Build.{built}
use Rattle.block_ledger.specs.Ledger.{Ledger, Segment, view}
use Rattle.block_ledger.specs.Traced.{built_in}

-- the block at this address of a memory
abbrev pub block_in : Tool → ℕ → Isa → Memory → ℕ → Option Parts
block_in tool max isa m a = built_in (code_at m a) a isa tool max

-- each block that stands ready is the one that would be built there
abbrev pub AreFresh : Tool → ℕ → Isa → Memory → Ledger → Type 0
AreFresh tool max isa m led = (a : ℕ) (block : Parts) → view led a ≡ Some block → block_in tool max isa m a ≡ Some block

-- where a code lies
abbrev pub extent : Option Code → Option Range
extent None = None
extent (Some code) = Some (record { start = code.start; len = length code.bytes })

-- the region of each attached segment has the start and the length of its image
abbrev pub AreMapped : Memory → Ledger → Type 0
AreMapped m led = (i : ℕ) (seg : Segment) → fin.get led.segments i ≡ Some seg → extent (code_at m seg.image.start) ≡ extent (Some seg.image)

-- Each address of an attached unit has a block that is built in its image; and where a block of the units stands there that was
-- not withdrawn, it is that one.
pub record AreOfUnits (tool : Tool) (max : ℕ) (isa : Isa) (led : Ledger) : Type 0 where
  pub have : (i : ℕ) (seg : Segment) (a : ℕ) → fin.get led.segments i ≡ Some seg → set.contains seg.addresses a ≡ true → is_some (built seg.image a isa tool max) ≡ true
  pub stand : (i : ℕ) (seg : Segment) (a : ℕ) (block : Parts) → fin.get led.segments i ≡ Some seg → set.contains seg.addresses a ≡ true → fin.get led.shared a ≡ Some block → built seg.image a isa tool max ≡ Some block

-- no block of a unit stands that did not
abbrev pub SharesNoMore : Ledger → Ledger → Type 0
SharesNoMore old new = (a : ℕ) (block : Parts) → fin.get new.shared a ≡ Some block → fin.get old.shared a ≡ Some block
