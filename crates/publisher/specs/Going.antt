-- How far a publisher has come.
use Rattle.std.specs.Prelude.{◌≡◌, ℕ, ◌<◌, ◌≤◌, Bool, false, List, ◌∷◌, ◌++◌, length, Contains, Option, None}
use Rattle.std.specs.List.{AllByRecursion}
use Rattle.shelf_model.specs.Shelf.{Told, Images}
use Rattle.publish.specs.declared.area.Standing.{Standing}
use Rattle.publish.specs.declared.outcome.Pub.{Pub}
use Rattle.publish.specs.Area.{Edition}
use Rattle.publish.specs.Verdict.{held}
use Rattle.publish.specs.Crash.{Fits, ForBoth}
use Rattle.registry.specs.declared.entry.Entry.{Entry}
use Rattle.registry.specs.Opening.{Opening, slot_at}
use Rattle.registry.specs.State.{State, due_slot}
use Rattle.registry.specs.Registry.{AreReplied, slot_of}
use Rattle.registry.specs.History.{History, state_of}
use Rattle.publisher.specs.Loads.{NoneFalls}
use Rattle.publisher.specs.Serving.{AreCaused, AreTheirs, Grew, Publishes, added, seqs_all, seqs_of, standing_at}
use Rattle.publisher.specs.Areas.{AreToldAs, KeepsStrangers, OnlyPublishes, Rewriting, all_standings}
use Rattle.publisher.specs.Folder.{HoldsBehind, HoldsNow, IsSound, KeepsOthers, Survives}

-- ---- one slot

-- What lasts of a slot that was open. While it is open, the shelf tells what it holds.
pub record Lasts (o : Opening) (s : State) (k : ℕ) (entries : List Entry) (told : Told) (t0 t1 : ℕ) (images : Images) (shut : Bool) (old : Option Edition) : Type 0 where
  pub survives : Survives images t0 t1 o s k entries old
  pub holds : shut ≡ false → HoldsNow told (slot_at o k) (λ q. Contains (old ∷ survives.all) q × HoldsBehind o s k entries old q)

-- what is known of a slot behind these entries, and whether it was and is shut
pub record Slotted (o : Opening) (s : State) (entries : List Entry) (served : List Pub) (standings : List Standing) (told0 told1 : Told) (t0 t1 : ℕ) (images : Images) (shut0 shut1 : Bool) (k : ℕ) : Type 0 where
  pub fits : shut1 ≡ false → Fits told1 images t1 (slot_at o k) (standing_at standings k)
  pub was_open : shut1 ≡ false → shut0 ≡ false
  pub folder : AllByRecursion (IsSound k) served → ForBoth told0 (slot_at o k) (λ a b. HoldsNow told1 (slot_at o k) (HoldsBehind o s k entries (held (slot_at o k) a b)))
  pub lasts : shut0 ≡ false → ForBoth told0 (slot_at o k) (λ a b. Lasts o s k entries told1 t0 t1 images shut1 (held (slot_at o k) a b))

-- ---- all of them

-- these publications were made since the registry was `old`
pub record Going (old now : History) (st0 st1 : List Standing) (told0 told1 : Told) (t0 t1 : ℕ) (images : Images) (f0 f1 : List ℕ → ℕ) (served : List Pub) : Type 0 where
  pub more : List Entry
  pub journal : now ≡ record old { journal = old.journal ++ more }
  pub replied : AreReplied old.opening (state_of old) more
  pub theirs : AreTheirs more
  pub publishes : Publishes (seqs_of st0) more served
  pub seqs : seqs_of st1 ≡ seqs_all more (seqs_of st0)
  pub standings : length st1 ≡ length old.opening.slots
  pub counts : NoneFalls f0 f1
  pub caused : AreCaused old.opening f0 f1 served
  pub others : KeepsOthers old.opening more told0 told1
  pub rewriting : Rewriting old.opening (state_of old) more st0 told0 told1
  pub behind : st1 ≡ all_standings rewriting.all st0
  pub told_as : AreToldAs rewriting.all served
  pub later : t0 ≤ t1
  pub slots : (k : ℕ) → k < length old.opening.slots → Slotted old.opening (state_of old) more served st1 told0 told1 t0 t1 images (slot_of (state_of old) k).shut (slot_of (state_of now) k).shut k

-- what holds at the end, also where memory ran out
pub record Ends (old new : History) (st0 : List Standing) (told0 told1 : Told) (t0 t1 : ℕ) (images : Images) (f0 f1 : List ℕ → ℕ) : Type 0 where
  pub grew : Grew old new
  pub counts : NoneFalls f0 f1
  pub others : KeepsOthers old.opening (added old new) told0 told1
  pub rewriting : Rewriting old.opening (state_of old) (added old new) st0 told0 told1
  pub only : OnlyPublishes old.opening.slots told0 told1
  pub strangers : KeepsStrangers old.opening.slots told0 told1
  pub survives : (k : ℕ) → k < length old.opening.slots → (slot_of (state_of old) k).shut ≡ false
      → ForBoth told0 (slot_at old.opening k) (λ a b. Survives images t0 t1 old.opening (state_of old) k (added old new) (held (slot_at old.opening k) a b))

-- all that was due was published
pub record Whole (old new : History) (st0 st1 : List Standing) (told0 told1 : Told) (t0 t1 : ℕ) (images : Images) (f0 f1 : List ℕ → ℕ) (served : List Pub) : Type 0 where
  pub going : Going old new st0 st1 told0 told1 t0 t1 images f0 f1 served
  pub none_due : due_slot (state_of new) ≡ None
