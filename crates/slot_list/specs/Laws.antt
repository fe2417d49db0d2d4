-- What holds of the slots of a run.
use Rattle.std.specs.Prelude.{◌≡◌, ℕ, ◌≤◌, List, length, map, Some, slice_get}
use Rattle.std.specs.List.{All, Contains}
use Rattle.manifest.specs.Entries.{ModuleEntry, GuestEntry}
use Rattle.manifest.specs.Manifest.{module_names}
use Rattle.plain_machine.specs.Program.{Program}
use Rattle.elf_map.specs.Program.{texts_of}
use Rattle.unit_set.specs.Slot.{Slot, IsSlot, slot_text}
use Rattle.slot_list.specs.Recipe.{recipe_of, recipes_of}
use Rattle.slot_list.specs.Slots.{most_segs, slots_of}

-- nothing stands at two places
abbrev pub AreDistinct : {A : Type 0} → List A → Type 0
AreDistinct {A} xs = (i j : ℕ) (x : A) → slice_get xs i ≡ Some x → slice_get xs j ≡ Some x → i ≡ j

-- where modules have names of their own, the slots differ
abbrev pub SlotsDiffer : Type 0
SlotsDiffer = (modules : List ModuleEntry) (guests : List GuestEntry) (elfs : List Program) → AreDistinct (module_names modules) → AreDistinct (slots_of modules guests elfs)

-- names of slots that differ are spelled in different ways
abbrev pub SpellingsDiffer : Type 0
SpellingsDiffer = (slots : List Slot) → All IsSlot slots → AreDistinct slots → AreDistinct (map slot_text slots)

-- each guest's recipe is one of the run's
abbrev pub RecipesAreListed : Type 0
RecipesAreListed = (guests : List GuestEntry) (g : ℕ) (guest : GuestEntry) → slice_get guests g ≡ Some guest → Contains (recipes_of guests) (recipe_of guest)

-- no file has more executable segments than there are numbers for
abbrev pub SegmentsAreNumbered : Type 0
SegmentsAreNumbered = (elfs : List Program) (file : ℕ) (elf : Program) → slice_get elfs file ≡ Some elf → length (texts_of elf) ≤ most_segs elfs
