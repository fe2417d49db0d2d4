-- What publications, one after another, make of the areas of all slots.
use Rattle.std.specs.Prelude.{◌≡◌, ◌≢◌, ℕ, ◌<◌, List, [], ◌∷◌, ◌++◌, length, set, Result, Ok, Err}
use Rattle.std.specs.List.{AllByRecursion}
use Rattle.shelf_model.specs.declared.shelf.Area.{Area}
use Rattle.shelf_model.specs.Shelf.{Told, TellsSame}
use Rattle.unit_set.specs.Slot.{Slot, slot_text}
use Rattle.unit_set.specs.Held.{Held}
use Rattle.publish.specs.declared.area.Standing.{Standing}
use Rattle.publish.specs.declared.gates.PubErr.{PubErr}
use Rattle.publish.specs.declared.gates.PubErr.TheVariants.{ShelfFault, WornOut, Memory}
use Rattle.publish.specs.declared.outcome.Pub.{Pub}
use Rattle.publish.specs.Rewriting.{Rewrites, standing_by}
use Rattle.registry.specs.declared.entry.Entry.{Entry}
use Rattle.registry.specs.declared.entry.Entry.TheVariants.{Due, Acked, Failed}
use Rattle.registry.specs.Content.{content_of}
use Rattle.registry.specs.Opening.{Opening, slot_at}
use Rattle.registry.specs.State.{State}
use Rattle.registry.specs.Registry.{after_all, unit_for}
use Rattle.publisher.specs.Loads.{name_at}
use Rattle.publisher.specs.Serving.{standing_at}
use Rattle.publisher.specs.Leg.{Tells}

-- ---- one publication

-- of this unit, from this standing on, for the Due entry of this slot, age and version
pub record Attempt : Type 0 where
  pub slot : ℕ
  pub age : ℕ
  pub version : ℕ
  pub unit : Held
  pub standing : Standing
  pub outcome : Result ℕ PubErr

-- how it is answered: not at all where memory ran out
abbrev pub answer_entries : ℕ → ℕ → ℕ → Result ℕ PubErr → List Entry
answer_entries slot age version (Ok stages) = Acked slot age version ∷ []
answer_entries slot age version (Err (ShelfFault stages)) = Failed slot ∷ []
answer_entries slot age version (Err WornOut) = Failed slot ∷ []
answer_entries slot age version (Err Memory) = []

-- its entries
abbrev pub entries_of : Attempt → List Entry
entries_of x = Due x.slot x.age x.version ∷ answer_entries x.slot x.age x.version x.outcome

-- the standings of all slots behind it
abbrev pub standings_by : Attempt → List Standing → List Standing
standings_by x standings = set standings x.slot (standing_by x.outcome x.standing)

-- its unit is the one that the entry hands out, and its standing that of the slot
pub record IsHanded (o : Opening) (s : State) (standings : List Standing) (x : Attempt) : Type 0 where
  pub there : x.slot < length o.slots
  pub named : x.unit.slot ≡ slot_at o x.slot
  pub unit : content_of x.unit ≡ unit_for o s (Due x.slot x.age x.version)
  pub standing : x.standing ≡ standing_at standings x.slot

-- it is told so
pub record IsToldAs (x : Attempt) (p : Pub) : Type 0 where
  pub slot : p.slot ≡ x.slot
  pub age : p.age ≡ x.age
  pub version : p.version ≡ x.version
  pub tells : Tells x.standing.seq x.outcome p

-- ---- one after another

abbrev pub all_entries : List Attempt → List Entry
all_entries [] = []
all_entries (x ∷ xs) = entries_of x ++ all_entries xs

abbrev pub all_standings : List Attempt → List Standing → List Standing
all_standings [] standings = standings
all_standings (x ∷ xs) standings = all_standings xs (standings_by x standings)

abbrev pub AreHanded : Opening → State → List Standing → List Attempt → Type 0
AreHanded o s standings [] = Unit {0}
AreHanded o s standings (x ∷ xs) = IsHanded o s standings x × AreHanded o (after_all o s (entries_of x)) (standings_by x standings) xs

-- what one leaves of the areas, the next finds
abbrev pub AreRewritten : Told → Told → List Attempt → Type 0
AreRewritten before after [] = TellsSame before after
AreRewritten before after (x ∷ xs) = (mid : Told) × Rewrites before mid x.unit x.standing x.outcome × AreRewritten mid after xs

abbrev pub AreToldAs : List Attempt → List Pub → Type 0
AreToldAs [] [] = Unit {0}
AreToldAs [] (p ∷ ps) = ⊥
AreToldAs (x ∷ xs) [] = ⊥
AreToldAs (x ∷ xs) (p ∷ ps) = IsToldAs x p × AreToldAs xs ps

-- The areas change by publications alone, one after another, which are those of these entries.
pub record Rewriting (o : Opening) (s : State) (entries : List Entry) (standings : List Standing) (before after : Told) : Type 0 where
  pub all : List Attempt
  pub entries_are : entries ≡ all_entries all
  pub handed : AreHanded o s standings all
  pub areas : AreRewritten before after all

-- ---- whatever was answered, and of which entries they are

-- its unit is of its slot, which is one of these
pub record IsOfSlot (slots : List Slot) (x : Attempt) : Type 0 where
  pub there : x.slot < length slots
  pub named : x.unit.slot ≡ name_at slots x.slot

-- the areas change by publications of these slots alone, one after another
pub record OnlyPublishes (slots : List Slot) (before after : Told) : Type 0 where
  pub all : List Attempt
  pub theirs : AllByRecursion (IsOfSlot slots) all
  pub areas : AreRewritten before after all

-- areas of a name that none of these slots has keep what is told of them
abbrev pub KeepsStrangers : List Slot → Told → Told → Type 0
KeepsStrangers slots before after = (name : List ℕ) (area : Area) → ((k : ℕ) → k < length slots → slot_text (name_at slots k) ≢ name) → after name area ≡ before name area
