-- What a slot's two areas hold after a crash, at each moment.
use Rattle.std.specs.Prelude.{◌≡◌, ◌⊎◌, ℕ, ◌+◌, ◌<◌, ◌≤◌, List, length, Option, Some, Result, Err, OnOk}
use Rattle.shelf_model.specs.declared.shelf.Area.{Area}
use Rattle.shelf_model.specs.declared.shelf.Area.TheVariants.{A, B}
use Rattle.shelf_model.specs.Shelf.{Told, Images, Leaves, Passes}
use Rattle.publish.specs.declared.area.Standing.{Standing}
use Rattle.publish.specs.declared.area.Door.TheVariants.{Opened}
use Rattle.publish.specs.declared.gates.PubErr.{PubErr}
use Rattle.publish.specs.declared.gates.PubErr.TheVariants.{ShelfFault}
use Rattle.publish.specs.Area.{Edition, which, seq_of, door_in, free}
use Rattle.publish.specs.Verdict.{fine, held}
use Rattle.publish.specs.Gates.{Longer}
use Rattle.unit_set.specs.Slot.{Slot, slot_text}
use Rattle.unit_set.specs.Held.{Held}
use Rattle.unit_format.specs.declared.header.Version.TheVariants.{Two}
use Rattle.unit_format.specs.Text.{text}
use Rattle.unit_format.specs.Units.{raw_of}

-- where both areas are told and within the limit
abbrev pub ForBoth : Told → Slot → (List ℕ → List ℕ → Type 0) → Type 0
ForBoth told slot P = (a b : List ℕ) → told (slot_text slot) A ≡ Some a → told (slot_text slot) B ≡ Some b → length a ≤ 4194304 → length b ≤ 4194304 → P a b

-- the standing of these bytes
pub record IsStanding (slot : Slot) (a b : List ℕ) (s : Standing) : Type 0 where
  pub seq : s.seq ≡ seq_of (held slot a b)
  pub held : s.held ≡ which (fine slot a) (fine slot b)
  pub door_a : s.a ≡ door_in a
  pub door_b : s.b ≡ door_in b

-- the standing is that of the two areas, on which nothing is pending
pub record IsFit (images : Images) (now : ℕ) (slot : Slot) (a b : List ℕ) (s : Standing) : Type 0 where
  pub standing : IsStanding slot a b s
  pub still_a : Leaves images now (slot_text slot) A a
  pub still_b : Leaves images now (slot_text slot) B b

abbrev pub Fits : Told → Images → ℕ → Slot → Standing → Type 0
Fits told images now slot s = ForBoth told slot (λ a b. IsFit images now slot a b s)

-- at each moment from the one to the other, what a crash leaves holds what P allows
abbrev pub EachHolds : Images → ℕ → ℕ → Slot → (Option Edition → Type 0) → Type 0
EachHolds images from to slot P = (m : ℕ) (a b : List ℕ) → from ≤ m → m ≤ to → images m (slot_text slot) A a → images m (slot_text slot) B b → P (held slot a b)

-- what a crash may leave later has a seq that is no less than what one earlier may have left
abbrev pub NeverFalls : Images → ℕ → ℕ → Slot → Type 0
NeverFalls images from to slot =
    (m k : ℕ) (a b : List ℕ) → from ≤ m → m ≤ k → k ≤ to → images k (slot_text slot) A a → images k (slot_text slot) B b
    → (c : List ℕ) × (d : List ℕ) × images m (slot_text slot) A c × images m (slot_text slot) B d × (seq_of (held slot c d) ≤ seq_of (held slot a b))

-- A publication: the old until OpenGate began, from then on the old or the new, and after Ok the new.
pub record Publishes {T : Type 0} (images : Images) (from to : ℕ) (slot : Slot) (old new : Option Edition) (result : Result T PubErr) : Type 0 where
  pub opened : ℕ
  pub after : from ≤ opened
  pub until : opened ≤ to
  pub before : EachHolds images from opened slot (λ q. q ≡ old)
  pub since : EachHolds images from to slot (λ q. (q ≡ old) ⊎ (q ≡ new))
  pub never_falls : NeverFalls images from to slot
  pub done : OnOk result (EachHolds images to to slot (λ q. q ≡ new))
  -- broken before OpenGate, none ever leaves the new
  pub unopened : (n : ℕ) → result ≡ Err (ShelfFault n) → n < 2 → to ≤ opened

-- the standing after a publication into an area
abbrev pub advanced : Area → ℕ → Standing → Standing
advanced A n s = record { seq = n; held = Some A; a = Opened; b = s.b }
advanced B n s = record { seq = n; held = Some B; a = s.a; b = Opened }

-- both areas are told and within the limit, and hold this
pub record NowHolds (told : Told) (slot : Slot) (q : Option Edition) : Type 0 where
  pub first : List ℕ
  pub second : List ℕ
  pub tells_a : told (slot_text slot) A ≡ Some first
  pub tells_b : told (slot_text slot) B ≡ Some second
  pub small_a : length first ≤ 4194304
  pub small_b : length second ≤ 4194304
  pub holds : held slot first second ≡ q

-- a unit's text as it is published
unfoldable pub text_of : Held → List ℕ
text_of u = text Two (raw_of u)

-- a unit, published with this seq
abbrev pub as_next : ℕ → Held → Option Edition
as_next seq unit = Some (record { seq = seq; unit = unit })

-- What a call of `publish` did, besides what it left of the areas.
pub record Publication {T : Type 0} (told0 told1 : Told) (t0 t1 : ℕ) (i0 i1 : Images) (s0 s1 : Standing) (unit : Held) (result : Result T PubErr) : Type 0 where
  -- just one area of the slot is written: the one that is not held
  pub passes : Passes t0 t1 i0 i1 (slot_text unit.slot) (free s0.held)
  -- no area gets shorter
  pub longer : Longer told0 told1 (slot_text unit.slot) (free s0.held)
  -- at each moment of the call
  pub crash : ForBoth told0 unit.slot (λ a b. Publishes i1 t0 t1 unit.slot (held unit.slot a b) (as_next (s0.seq + 1) unit) result)
  -- and after it
  pub now : OnOk result (ForBoth told0 unit.slot (λ a b. NowHolds told1 unit.slot (as_next (s0.seq + 1) unit)))
  pub fits : OnOk result (Fits told1 i1 t1 unit.slot s1)
