-- What a whole run sees of its shelf, and how slots are loaded from it.
use Rattle.std.specs.Prelude.{◌≡◌, ◌⊎◌, ℕ, List, Bool, true, false, option_map, Option, None}
use Rattle.fault_counts.specs.Counts.{Rose}
use Rattle.shelf_model.specs.Shelf.{Told}
use Rattle.unit_set.specs.Slot.{Slot, slot_text}
use Rattle.publish.specs.declared.loading.Found.{Found}
use Rattle.publish.specs.declared.outcome.Loaded.{Loaded}
use Rattle.publish.specs.declared.outcome.Loaded.TheVariants.{Held, Nothing, Unread}
use Rattle.publish.specs.Load.{FindsAll, loaded_of}
use Rattle.registry.specs.Content.{Content, content_of}
use Rattle.publisher.specs.Areas.{KeepsStrangers, OnlyPublishes}

-- what it tells, and how often it failed on each name, before and after
pub record Seen : Type 0 where
  pub told_before : Told
  pub told_after : Told
  pub faults_before : List ℕ → ℕ
  pub faults_after : List ℕ → ℕ

abbrev pub seen_of : {H : Type 0} → (H → Told) → (H → List ℕ → ℕ) → H → H → Seen
seen_of told faults before after = record { told_before = told before; told_after = told after; faults_before = faults before; faults_after = faults after }

-- The areas change by publications of these slots alone, one after another, and none of another name does.
pub record ChangesOnly (slots : List Slot) (before after : Told) : Type 0 where
  pub only : OnlyPublishes slots before after
  pub strangers : KeepsStrangers slots before after

-- how a load is told, the unit that it found, and whether the slot is shut
pub record Opened : Type 0 where
  pub loaded : Loaded
  pub found : Option Content
  pub shut : Bool

-- the slot was read: this is the answer of the load over what the shelf told
pub record IsRead (s : Seen) (slot : Slot) (x : Opened) : Type 0 where
  pub answer : Found
  pub finds : FindsAll s.told_before slot answer
  pub is : x ≡ record { loaded = loaded_of answer.standing answer.a answer.b; found = option_map content_of answer.unit; shut = false }

-- the shelf failed on it
pub record IsUnread (s : Seen) (slot : Slot) (x : Opened) : Type 0 where
  pub rose : Rose (s.faults_before (slot_text slot)) (s.faults_after (slot_text slot))
  pub is : x ≡ record { loaded = Unread; found = None; shut = true }

abbrev pub IsOpened : Seen → Slot → Opened → Type 0
IsOpened s slot x = IsRead s slot x ⊎ IsUnread s slot x

-- the seq that a load tells of the unit held; 0 without one
abbrev pub seq_loaded : Loaded → ℕ
seq_loaded (Held area seq) = seq
seq_loaded (Nothing a b) = 0
seq_loaded Unread = 0
