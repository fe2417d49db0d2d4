-- What a registry is made from.
use Rattle.std.specs.Prelude.{ℕ, Bool, List, [], Option, slice_get, unwrap_or, false}
use Rattle.cc_base.specs.Image.{Code, Text, start_of}
use Rattle.rv_decode.specs.declared.ins.Isa.TheVariants as isa
use Rattle.probe_tools.specs.declared.tool.Tool.TheVariants as tools
use Rattle.unit_set.specs.Slot.{Slot}
use Rattle.registry.specs.Content.{Content}

pub record Opening : Type 0 where
  -- the slots, in order
  pub slots : List Slot
  -- per slot the unit that was found
  pub found : List (Option Content)
  -- per slot whether it is shut
  pub shut : List Bool
  -- per module its file
  pub modules : List ℕ
  -- per file its executable segments
  pub codes : List (List Text)

abbrev pub no_slot : Slot
no_slot = record { name = []; seg = 0; base = 0; isa = isa.I; tool = tools.Blocks; max = 1 }

abbrev pub no_text : Text
no_text = record { vaddr = 0; fixed = false; bytes = [] }

abbrev pub slot_at : Opening → ℕ → Slot
slot_at o slot = unwrap_or (slice_get o.slots slot) no_slot

-- segment `seg` of a file
abbrev pub text_at : Opening → ℕ → ℕ → Text
text_at o file seg = unwrap_or (slice_get (unwrap_or (slice_get o.codes file) []) seg) no_text

abbrev pub image_from : Slot → Text → Code
image_from slot text = record { start = start_of text slot.base; bytes = text.bytes }

-- the file's segment at the slot's base
abbrev pub image_at : Opening → ℕ → ℕ → Code
image_at o slot file = image_from (slot_at o slot) (text_at o file (slot_at o slot).seg)

-- the unit of the slot and this segment that has no address yet
abbrev pub empty_at : Opening → ℕ → ℕ → Content
empty_at o slot file = record { slot = slot_at o slot; image = image_at o slot file; addrs = [] }
