-- Which slots a run has, in order.
use Rattle.std.specs.Prelude.{ℕ, ◌≤◌, max, List, [], ◌∷◌, length, map}
use Rattle.std.specs.List.{flat_map, range_with_len}
use Rattle.manifest.specs.Entries.{ModuleEntry, GuestEntry}
use Rattle.plain_machine.specs.Program.{Program}
use Rattle.elf_map.specs.Program.{texts_of}
use Rattle.unit_set.specs.Slot.{Slot}
use Rattle.slot_list.specs.Recipe.{Recipe, recipes_of}

-- what a run has for each module: so many segments, and for each of them these recipes
pub record Layout : Type 0 where
  pub segs : ℕ
  pub recipes : List Recipe

-- what the type of a layout keeps
pub record IsLayout (layout : Layout) : Type 0 where
  pub few_segs : layout.segs ≤ 4
  pub few_recipes : length layout.recipes ≤ 64

-- the most executable segments of a file
abbrev pub most_segs : List Program → ℕ
most_segs [] = 0
most_segs (elf ∷ elfs) = max (length (texts_of elf)) (most_segs elfs)

abbrev pub layout_of : List GuestEntry → List Program → Layout
layout_of guests elfs = record { segs = most_segs elfs; recipes = recipes_of guests }

-- the slot of a module's segment, for the blocks of a recipe
abbrev pub slot_for : ModuleEntry → ℕ → Recipe → Slot
slot_for m seg r = record { name = m.name; seg = seg; base = m.base; isa = r.isa; tool = r.tool; max = r.max }

-- the slots of a segment
abbrev pub segment_slots : List Recipe → ModuleEntry → ℕ → List Slot
segment_slots recipes m seg = map (slot_for m seg) recipes

-- the slots of a module
abbrev pub module_slots : Layout → ModuleEntry → List Slot
module_slots layout m = flat_map (segment_slots layout.recipes m) (range_with_len 0 layout.segs)

-- by module, then by segment, then by recipe
abbrev pub slots_in : List ModuleEntry → Layout → List Slot
slots_in modules layout = flat_map (module_slots layout) modules

-- the slots of a run of these modules, guests and files
abbrev pub slots_of : List ModuleEntry → List GuestEntry → List Program → List Slot
slots_of modules guests elfs = slots_in modules (layout_of guests elfs)
