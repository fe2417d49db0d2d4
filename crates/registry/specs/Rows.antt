-- Worked rows.
use Rattle.std.specs.Prelude.{◌≡◌, ℕ, zero, suc, ◌+◌, List, [], ◌∷◌, true, false, Option, Some, None, codes}
use Rattle.cc_base.specs.Image.{Code, Text}
use Rattle.rv_decode.specs.declared.ins.Isa.TheVariants as isa
use Rattle.probe_tools.specs.declared.tool.Tool.TheVariants as tools
use Rattle.unit_set.specs.Slot.{Slot}
use Rattle.registry.specs.declared.entry.Entry.{Entry}
use Rattle.registry.specs.declared.entry.Entry.TheVariants.{Map, Replace, Attach, Merge, Detach, Due, Acked, Finish}
use Rattle.registry.specs.declared.entry.Merged.TheVariants.{Version, UnitFull}
use Rattle.registry.specs.declared.entry.Replaced.TheVariants.{Yes}
use Rattle.registry.specs.Content.{Content}
use Rattle.registry.specs.Opening.{Opening}
use Rattle.registry.specs.State.{State, due_slot}
use Rattle.registry.specs.Registry.{opened, reg, AreReplied, after, entry_for, AsksMerge, told_all, Told, no_unit}

-- ---- the two instructions

abbrev pub two_words : List ℕ
two_words = 0x93 ∷ 0x08 ∷ 0xd0 ∷ 0x05 ∷ 0x73 ∷ 0x00 ∷ 0x00 ∷ 0x00 ∷ []

abbrev pub text_of : List ℕ → Text
text_of bytes = record { vaddr = 0x10000; fixed = true; bytes = bytes }

abbrev pub image_of : List ℕ → Code
image_of bytes = record { start = 0x10000; bytes = bytes }

abbrev pub main_slot : Slot
main_slot = record { name = codes "main"; seg = 0; base = 0; isa = isa.I; tool = tools.Blocks; max = 16 }

-- module main, its one slot, and these files
abbrev pub frame : Option Content → List (List Text) → Opening
frame found texts = record { slots = main_slot ∷ []; found = found ∷ []; shut = false ∷ []; modules = 0 ∷ []; codes = texts }

abbrev pub frame_one : Option Content → Opening
frame_one found = frame found ((text_of two_words ∷ []) ∷ [])

abbrev pub first_journal : List Entry
first_journal = Map 0 0 (Some 0) ∷ Attach 0 0 0 0 0 ∷ Merge 0 0 0 (0x10000 ∷ []) (Version 1) ∷ Detach 0 0 0 ∷ Finish ∷ Due 0 0 1 ∷ Acked 0 0 1 ∷ []

abbrev pub found_unit : Content
found_unit = record { slot = main_slot; image = image_of two_words; addrs = 0x10000 ∷ [] }

abbrev pub first_state : State
first_state = record {
  files = 0 ∷ [];
  slots = record {
    generations = record { unit = found_unit; version = 1; attached = 0 } ∷ [];
    current = Some 0;
    published = Some (record { age = 0; version = 1 });
    shut = false;
  } ∷ [];
  unanswered = 0;
  finished = true;
}

abbrev pub FirstPublication : Type 0
FirstPublication = AreReplied (frame_one None) (opened (frame_one None)) first_journal × (reg (frame_one None) first_journal ≡ first_state)
    × (due_slot (reg (frame_one None) first_journal) ≡ None)

-- ---- the same again

abbrev pub second_journal : List Entry
second_journal = Map 0 0 (Some 0) ∷ Attach 0 0 0 0 0 ∷ Detach 0 0 0 ∷ Finish ∷ []

abbrev pub second_told : List Told
second_told = record { entry = Map 0 0 (Some 0); unit = no_unit } ∷ record { entry = Attach 0 0 0 0 0; unit = found_unit }
    ∷ record { entry = Detach 0 0 0; unit = no_unit } ∷ record { entry = Finish; unit = no_unit } ∷ []

abbrev pub SecondRun : Type 0
SecondRun = AreReplied (frame_one (Some found_unit)) (opened (frame_one (Some found_unit))) second_journal
    × (due_slot (reg (frame_one (Some found_unit)) second_journal) ≡ None)
    × (told_all (frame_one (Some found_unit)) (opened (frame_one (Some found_unit))) second_journal ≡ second_told)

-- ---- a replaced file

abbrev pub p_words : List ℕ
p_words = 0x13 ∷ 0x05 ∷ 0x00 ∷ 0x00 ∷ 0x93 ∷ 0x05 ∷ 0x10 ∷ 0x00 ∷ 0x93 ∷ 0x08 ∷ 0xa0 ∷ 0x3e ∷ 0x73 ∷ 0x00 ∷ 0x00 ∷ 0x00 ∷ two_words

abbrev pub frame_two : Opening
frame_two = frame None ((text_of p_words ∷ []) ∷ (text_of two_words ∷ []) ∷ [])

abbrev pub replaced_journal : List Entry
replaced_journal = Map 0 0 (Some 0) ∷ Attach 0 0 0 0 0 ∷ Replace 0 0 1 Yes ∷ Merge 0 0 0 (0x10000 ∷ 0x10010 ∷ []) (Version 1) ∷ Detach 0 0 0
    ∷ Map 1 0 (Some 1) ∷ Attach 1 0 1 1 0 ∷ Merge 1 0 1 (0x10000 ∷ []) (Version 1) ∷ Detach 1 0 1 ∷ Finish ∷ Due 0 1 1 ∷ Acked 0 1 1 ∷ []

abbrev pub ReplacedFile : Type 0
ReplacedFile = AreReplied frame_two (opened frame_two) replaced_journal × (due_slot (reg frame_two replaced_journal) ≡ None)

-- ---- a full unit

-- n addresses from a on
abbrev pub words_from : ℕ → ℕ → List ℕ
words_from a zero = []
words_from a (suc n) = a ∷ words_from (a + 4) n

abbrev pub full : List ℕ
full = words_from 0x10000 16384

abbrev pub FullUnit : Type 0
FullUnit = (image : Code) (more : List Entry) → let o = frame (Some (record { slot = main_slot; image = image; addrs = full })) [] in
    (entry_for o (opened o) (AsksMerge 0 0 0 (0x20000 ∷ [])) ≡ Some (Merge 0 0 0 (0x20000 ∷ []) (UnitFull 16385)))
    × (after o (opened o) (Merge 0 0 0 (0x20000 ∷ []) (UnitFull 16385)) ≡ opened o)
