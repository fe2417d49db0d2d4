-- What a load finds.
use Rattle.std.specs.Prelude.{◌≡◌, ℕ, ◌≤◌, List, Option, Some, None, Result, Err}
use Rattle.shelf_model.specs.declared.shelf.Area.{Area}
use Rattle.shelf_model.specs.declared.shelf.Area.TheVariants.{A, B}
use Rattle.fault_counts.specs.Counts.{Rose}
use Rattle.shelf_model.specs.Shelf.{Told}
use Rattle.unit_set.specs.Slot.{Slot, slot_text}
use Rattle.publish.specs.declared.area.Verdict.{Verdict}
use Rattle.publish.specs.declared.area.Standing.{Standing}
use Rattle.publish.specs.declared.outcome.Loaded.{Loaded}
use Rattle.publish.specs.declared.outcome.Loaded.TheVariants.{Held, Nothing}
use Rattle.publish.specs.declared.loading.Found.{Found}
use Rattle.publish.specs.declared.loading.LoadErr.{LoadErr}
use Rattle.publish.specs.declared.loading.LoadErr.TheVariants.{Unread}
use Rattle.publish.specs.Area.{unit_of}
use Rattle.publish.specs.Verdict.{IsVerdict, held}
use Rattle.publish.specs.Crash.{IsStanding}

-- the answer of a load over these bytes
pub record IsFound (slot : Slot) (first second : List ℕ) (f : Found) : Type 0 where
  pub a : IsVerdict slot first f.a
  pub b : IsVerdict slot second f.b
  pub unit : f.unit ≡ unit_of (held slot first second)
  pub standing : IsStanding slot first second f.standing

-- where an area is told, these are its bytes
abbrev pub AgreesWith : Told → List ℕ → Area → List ℕ → Type 0
AgreesWith told name area bytes = (found : List ℕ) → told name area ≡ Some found → found ≡ bytes

-- the answer over some bytes, which are those that are told
pub record FindsAll (told : Told) (slot : Slot) (f : Found) : Type 0 where
  pub first : List ℕ
  pub second : List ℕ
  pub agrees_a : AgreesWith told (slot_text slot) A first
  pub agrees_b : AgreesWith told (slot_text slot) B second
  pub found : IsFound slot first second f

-- no count falls, and `Unread` comes only where that of the name rose
pub record HasLoadCause {T : Type 0} (before now : List ℕ → ℕ) (name : List ℕ) (result : Result T LoadErr) : Type 0 where
  pub later : (n : List ℕ) → before n ≤ now n
  pub unread : result ≡ Err Unread → Rose (before name) (now name)

-- ---- how it is told

abbrev pub loaded_as : Option Area → ℕ → Verdict → Verdict → Loaded
loaded_as (Some area) seq a b = Held area seq
loaded_as None seq a b = Nothing a b

abbrev pub loaded_of : Standing → Verdict → Verdict → Loaded
loaded_of s a b = loaded_as s.held s.seq a b
