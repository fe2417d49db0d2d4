-- Worked rows.
use Rattle.std.specs.Prelude.{◌≡◌, List, [], ◌∷◌, Some, codes}
use Rattle.std.specs.FinMap as fin
use Rattle.rv_decode.specs.declared.ins.Isa.TheVariants as isa
use Rattle.probe_tools.specs.declared.tool.Tool.TheVariants as tools
use Rattle.manifest.specs.Entries.{ModuleEntry}
use Rattle.unit_set.specs.Slot.{Slot}
use Rattle.slot_list.specs.Recipe.{Recipe}
use Rattle.slot_list.specs.Slots.{slot_for}
use Rattle.block_ledger.specs.Requests.{Asking, AsksFile, AsksUnit, Offers, LetsGo, asked_at}
use Rattle.registry.specs.declared.entry.Entry.TheVariants.{Map, Attach, Merge, Detach}
use Rattle.registry.specs.declared.entry.Merged.TheVariants.{Version}
use Rattle.registry.specs.Content.{Content}
use Rattle.registry.specs.Registry.{Told, no_unit}
use Rattle.guest_script.specs.Script.{AreMade, Caller}
use Rattle.guest_script.specs.Told.{files_told, units_told}
use Rattle.guest_script.specs.Legs.{legs}

abbrev pub sixteen : Recipe
sixteen = record { isa = isa.I; tool = tools.Blocks; max = 16 }

abbrev pub main_row : ModuleEntry
main_row = record { name = codes "main"; file = 0; base = 0 }

abbrev pub lib_row : ModuleEntry
lib_row = record { name = codes "lib"; file = 1; base = 0x200000 }

abbrev pub caller_of : List ModuleEntry → List Slot → Caller
caller_of modules slots = record { guest = 0; modules = modules; slots = slots; recipe = sixteen }

-- an image of no byte stands for the segment's
abbrev pub empty_unit : ModuleEntry → Content
empty_unit row = record { slot = slot_for row 0 sixteen; image = record { start = 0; bytes = [] }; addrs = [] }

-- ---- the two instructions, which are one block

abbrev pub first_requests : List Asking
first_requests = asked_at 0 (AsksFile 0) ∷ asked_at 0 (AsksUnit 0 0) ∷ asked_at 1 (Offers 0 (0x10000 ∷ [])) ∷ asked_at 1 (LetsGo 0) ∷ []

abbrev pub first_told : List Told
first_told = record { entry = Map 0 0 (Some 0); unit = no_unit } ∷ record { entry = Attach 0 0 0 0 0; unit = empty_unit main_row }
    ∷ record { entry = Merge 0 0 0 (0x10000 ∷ []) (Version 1); unit = no_unit } ∷ record { entry = Detach 0 0 0; unit = no_unit } ∷ []

abbrev pub FirstPublication : Type 0
FirstPublication = AreMade (caller_of (main_row ∷ []) (slot_for main_row 0 sixteen ∷ [])) fin.empty first_requests first_told
    × (files_told first_told ≡ 0 ∷ []) × (units_told first_told ≡ [] ∷ []) × (legs first_requests 1 ≡ 0 ∷ 0 ∷ 1 ∷ 0 ∷ 0 ∷ [])

-- ---- a library that is mapped by a call in the first of four blocks; the second time, when all blocks are there

abbrev pub library_requests : List Asking
library_requests = asked_at 0 (AsksFile 0) ∷ asked_at 0 (AsksUnit 0 0) ∷ asked_at 1 (AsksFile 1) ∷ asked_at 1 (AsksUnit 4 1) ∷ asked_at 4 (LetsGo 0) ∷ asked_at 4 (LetsGo 4) ∷ []

abbrev pub library_told : List Told
library_told = record { entry = Map 0 0 (Some 0); unit = no_unit } ∷ record { entry = Attach 0 0 0 0 0; unit = empty_unit main_row }
    ∷ record { entry = Map 0 1 (Some 1); unit = no_unit } ∷ record { entry = Attach 0 1 1 0 0; unit = empty_unit lib_row }
    ∷ record { entry = Detach 0 0 0; unit = no_unit } ∷ record { entry = Detach 0 1 0; unit = no_unit } ∷ []

abbrev pub MappedLibrary : Type 0
MappedLibrary = AreMade (caller_of (main_row ∷ lib_row ∷ []) (slot_for main_row 0 sixteen ∷ slot_for lib_row 0 sixteen ∷ [])) fin.empty library_requests library_told
    × (files_told library_told ≡ 0 ∷ 1 ∷ []) × (legs library_requests 4 ≡ 0 ∷ 0 ∷ 1 ∷ 0 ∷ 3 ∷ 0 ∷ 0 ∷ [])
