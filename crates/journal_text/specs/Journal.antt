-- The printed lines of a journal.
use Rattle.std.specs.Prelude.{ℕ, List, [], ◌∷◌, ◌++◌, length, codes, decimal, Option, Some, None, option_map, slice_get, unwrap_or}
use Rattle.std.specs.List.{flat_map}
use Rattle.unit_set.specs.Slot.{Slot, slot_text}
use Rattle.registry.specs.declared.entry.Entry.{Entry}
use Rattle.registry.specs.declared.entry.Entry.TheVariants.{Map, Replace, Attach, Merge, Detach, Due, Acked, Failed, Finish}
use Rattle.registry.specs.declared.entry.Replaced.{Replaced}
use Rattle.registry.specs.declared.entry.Replaced.TheVariants.{Yes, NoSuchModule, NoSuchFile}
use Rattle.registry.specs.declared.entry.Merged.{Merged}
use Rattle.registry.specs.declared.entry.Merged.TheVariants.{Version, UnitFull}

-- a number, with a space before it
abbrev pub number : ℕ → List ℕ
number n = codes " " ++ decimal n

abbrev pub numbers : List ℕ → List ℕ
numbers ns = flat_map number ns

-- the name of the guest of this number; nothing where there is no such guest
abbrev pub guest_name : List (List ℕ) → ℕ → List ℕ
guest_name guests guest = unwrap_or (slice_get guests guest) []

-- the spelling of the slot of this number; nothing where there is no such slot
abbrev pub slot_name : List Slot → ℕ → List ℕ
slot_name slots slot = unwrap_or (option_map slot_text (slice_get slots slot)) []

-- a guest and a slot
abbrev pub both_names : List (List ℕ) → ℕ → List Slot → ℕ → List ℕ
both_names guests guest slots slot = guest_name guests guest ++ codes " " ++ slot_name slots slot

abbrev pub file_text : Option ℕ → List ℕ
file_text None = codes " none"
file_text (Some file) = number file

abbrev pub replaced_text : Replaced → List ℕ
replaced_text Yes = codes " yes"
replaced_text NoSuchModule = codes " no-module"
replaced_text NoSuchFile = codes " no-file"

abbrev pub merged_text : Merged → List ℕ
merged_text (Version version) = codes " version" ++ number version
merged_text (UnitFull count) = codes " full" ++ number count

-- what was called
abbrev pub call_text : Entry → List ℕ
call_text (Map g m file) = codes "map "
call_text (Replace g m file reply) = codes "replace "
call_text (Attach g s file age version) = codes "attach "
call_text (Merge g s age addrs reply) = codes "merge "
call_text (Detach g s age) = codes "detach "
call_text (Due s age version) = codes "due "
call_text (Acked s age version) = codes "acked "
call_text (Failed s) = codes "failed "
call_text Finish = codes "finish"

-- the names of its guest and its slot
abbrev pub entry_names : List (List ℕ) → List Slot → Entry → List ℕ
entry_names guests slots (Map g m file) = guest_name guests g
entry_names guests slots (Replace g m file reply) = guest_name guests g
entry_names guests slots (Attach g s file age version) = both_names guests g slots s
entry_names guests slots (Merge g s age addrs reply) = both_names guests g slots s
entry_names guests slots (Detach g s age) = both_names guests g slots s
entry_names guests slots (Due s age version) = slot_name slots s
entry_names guests slots (Acked s age version) = slot_name slots s
entry_names guests slots (Failed s) = slot_name slots s
entry_names guests slots Finish = []

-- its numbers, and the reply. Of addresses their number is told
abbrev pub entry_numbers : Entry → List ℕ
entry_numbers (Map g m file) = number m ++ file_text file
entry_numbers (Replace g m file reply) = numbers (m ∷ file ∷ []) ++ replaced_text reply
entry_numbers (Attach g s file age version) = numbers (file ∷ age ∷ version ∷ [])
entry_numbers (Merge g s age addrs reply) = numbers (age ∷ length addrs ∷ []) ++ merged_text reply
entry_numbers (Detach g s age) = number age
entry_numbers (Due s age version) = numbers (age ∷ version ∷ [])
entry_numbers (Acked s age version) = numbers (age ∷ version ∷ [])
entry_numbers (Failed s) = []
entry_numbers Finish = []

abbrev pub entry_line : List (List ℕ) → List Slot → Entry → List ℕ
entry_line guests slots e = call_text e ++ entry_names guests slots e ++ entry_numbers e ++ codes "\n"

-- how many entries a journal has, and a line for each
abbrev pub journal_lines : List (List ℕ) → List Slot → List Entry → List ℕ
journal_lines guests slots journal = codes "journal" ++ number (length journal) ++ codes "\n" ++ flat_map (entry_line guests slots) journal
