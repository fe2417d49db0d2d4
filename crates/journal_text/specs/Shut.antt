-- The slots that are shut, and the lines that tell them.
use Rattle.std.specs.Prelude.{ℕ, ◌==◌, ◌&&◌, ◌||◌, Bool, true, false, if◌then◌else◌, List, [], ◌++◌, length, codes, Option, Some, None, slice_get}
use Rattle.std.specs.List.{flat_map, list_any, find, range_with_len}
use Rattle.unit_set.specs.Slot.{Slot}
use Rattle.publish.specs.declared.outcome.Loaded.{Loaded}
use Rattle.publish.specs.declared.outcome.Loaded.TheVariants as loads
use Rattle.publish.specs.declared.outcome.Pub.{Pub}
use Rattle.publish.specs.declared.outcome.PubFault.{PubFault}
use Rattle.publish.specs.declared.outcome.PubFault.TheVariants as faults
use Rattle.journal_text.specs.Journal.{slot_name}

-- the shelf failed at a load
abbrev pub is_unread : Option Loaded → Bool
is_unread (Some (loads.Held area seq)) = false
is_unread (Some (loads.Nothing a b)) = false
is_unread (Some loads.Unread) = true
is_unread None = false

abbrev pub is_shelf : Option PubFault → Bool
is_shelf (Some faults.Shelf) = true
is_shelf (Some faults.WornOut) = false
is_shelf None = false

abbrev pub is_worn : Option PubFault → Bool
is_worn (Some faults.Shelf) = false
is_worn (Some faults.WornOut) = true
is_worn None = false

-- a publication of the slot met a fault of the shelf
abbrev pub broke : ℕ → Pub → Bool
broke slot p = (p.slot == slot) && is_shelf p.fault

-- a publication of the slot found its seq at the end
abbrev pub wore_out : ℕ → Pub → Bool
wore_out slot p = (p.slot == slot) && is_worn p.fault

-- the load of the slot, or a publication of it, met a fault of the shelf
abbrev pub shelf_failed : List Loaded → List Pub → ℕ → Bool
shelf_failed loaded served slot = is_unread (slice_get loaded slot) || list_any (broke slot) served

abbrev pub is_worn_out : List Pub → ℕ → Bool
is_worn_out served slot = list_any (wore_out slot) served

-- the line of a slot, where it is shut
unfoldable pub shut_line : List Slot → List Loaded → List Pub → ℕ → List ℕ
shut_line slots loaded served slot =
    if shelf_failed loaded served slot then codes "shut " ++ slot_name slots slot ++ codes " shelf\n"
    else (if is_worn_out served slot then codes "shut " ++ slot_name slots slot ++ codes " worn\n" else [])

-- of all slots, in order
abbrev pub shut_lines : List Slot → List Loaded → List Pub → List ℕ
shut_lines slots loaded served = flat_map (shut_line slots loaded served) (range_with_len 0 (length slots))

-- the first slot of which a load or a publication met a fault of the shelf
abbrev pub first_fault : List Loaded → List Pub → Option ℕ
first_fault loaded served = find (shelf_failed loaded served) (range_with_len 0 (length loaded))
