-- A registry as its callers see it, and what its type keeps.
use Rattle.std.specs.Prelude.{◌≡◌, ℕ, zero, suc, ◌+◌, ◌≤◌, ◌<◌, ◌-◌, ◌^◌, ◌==◌, ◌&&◌, Bool, true, false, if◌then◌else◌, List, [], ◌∷◌, ◌++◌, length, slice_get, unwrap_or, count_by, sum_by, Option, Some, None}
use Rattle.std.specs.List.{All, AllByRecursion, list_any}
use Rattle.registry.specs.declared.entry.Entry.{Entry}
use Rattle.registry.specs.declared.entry.Entry.TheVariants.{Attach, Detach, Due, Acked, Failed}
use Rattle.registry.specs.Opening.{Opening, slot_at, image_at}
use Rattle.unit_set.specs.Slot.{Slot}
use Rattle.registry.specs.Content.{Content}
use Rattle.registry.specs.State.{State, SlotState, Generation}
use Rattle.registry.specs.Registry.{opened, reg, IsReplied, AreReplied, generation_of, slot_of, slot_in, generation_in, has_image}

-- what it was made from, and its journal
pub record History : Type 0 where
  pub opening : Opening
  pub journal : List Entry

-- the state that it is in
abbrev pub state_of : History → State
state_of h = reg h.opening h.journal

-- the registry `old` made this entry, which is the one that its call makes, and is then `new`
pub record Adds (old : History) (e : Entry) (new : History) : Type 0 where
  pub replied : IsReplied old.opening (state_of old) e
  pub added : new ≡ record old { journal = old.journal ++ e ∷ [] }

-- ---- counts of entries

abbrev pub is_attach : ℕ → ℕ → Entry → Bool
is_attach slot age (Attach guest s file a version) = (s == slot) && (a == age)
is_attach slot age _ = false

abbrev pub is_detach : ℕ → ℕ → Entry → Bool
is_detach slot age (Detach guest s a) = (s == slot) && (a == age)
is_detach slot age _ = false

abbrev pub is_due : Entry → Bool
is_due (Due slot age version) = true
is_due _ = false

abbrev pub is_answer : Entry → Bool
is_answer (Acked slot age version) = true
is_answer (Failed slot) = true
is_answer _ = false

-- ---- what the type keeps

-- how many entries are owed, for which no memory may be taken
abbrev pub owed_by : SlotState → ℕ
owed_by s = sum_by (λ g. g.attached) s.generations

abbrev pub owed_of : State → ℕ
owed_of s = sum_by owed_by s.slots + s.unanswered + (if s.finished then 0 else 1)

-- a version grows with the set alone
abbrev pub IsVersioned : Generation → Type 0
IsVersioned g = g.version ≤ length g.unit.addrs

abbrev pub AreVersioned : SlotState → Type 0
AreVersioned s = AllByRecursion IsVersioned s.generations

-- how many of the numbers below n pass
abbrev pub passing : (ℕ → Bool) → ℕ → ℕ
passing p zero = 0
passing p (suc n) = (if p n then 1 else 0) + passing p n

-- the file's segment is the image of a generation
abbrev pub has_file : Opening → ℕ → List Generation → ℕ → Bool
has_file o slot gs file = list_any (has_image (image_at o slot file)) gs

-- each generation's unit has the name of its slot
abbrev pub IsNamed : Slot → Generation → Type 0
IsNamed name g = g.unit.slot ≡ name

abbrev pub AreNamed : List Slot → List SlotState → Type 0
AreNamed [] [] = Unit {0}
AreNamed [] (s ∷ ss) = ⊥
AreNamed (name ∷ names) [] = ⊥
AreNamed (name ∷ names) (s ∷ ss) = AllByRecursion (IsNamed name) s.generations × AreNamed names ss

-- each generation but a found one has the image of another file
abbrev pub AreFew : Opening → List SlotState → Type 0
AreFew o ss = (slot : ℕ) → length (slot_in ss slot).generations ≤ 1 + passing (has_file o slot (slot_in ss slot).generations) (length o.codes)

-- the file of each module is there
abbrev pub AreFiles : Opening → Type 0
AreFiles o = All (λ file. file < length o.codes) o.modules

pub record IsKept (o : Opening) (journal : List Entry) (s : State) (owed capacity : ℕ) : Type 0 where
  pub fold : s ≡ reg o journal
  -- each entry is the one that its call made at its place
  pub replied : AreReplied o (opened o) journal
  -- each number attached is the Attach entries of that generation less its Detach entries
  pub attached : (slot age : ℕ) → (generation_of s slot age).attached + count_by (is_detach slot age) journal ≡ count_by (is_attach slot age) journal
  pub answered : s.unanswered + count_by is_answer journal ≡ count_by is_due journal
  pub owes : owed ≡ owed_of s
  pub room : length journal + owed ≤ capacity
  pub slots : length s.slots ≡ length o.slots
  pub versions : AllByRecursion AreVersioned s.slots
  pub named : AreNamed o.slots s.slots
  pub few : AreFew o s.slots
  pub within : (length o.slots < 4294967295) × (length o.codes < 4294967295)
  pub modules : AreFiles o

-- ---- conditions

-- each unit that was found has the name of its slot
abbrev pub AreFound : List Slot → List (Option Content) → Type 0
AreFound [] [] = Unit {0}
AreFound [] (u ∷ us) = ⊥
AreFound (name ∷ names) [] = ⊥
AreFound (name ∷ names) (None ∷ us) = AreFound names us
AreFound (name ∷ names) (Some u ∷ us) = (u.slot ≡ name) × AreFound names us

pub record IsOpening (o : Opening) : Type 0 where
  pub found : AreFound o.slots o.found
  pub shut : length o.shut ≡ length o.slots
  pub few : (length o.slots < 4294967295) × (length o.codes < 4294967295)
  pub modules : AreFiles o

-- the file has the slot's segment, and it fits
pub record MayAttach (o : Opening) (slot file : ℕ) : Type 0 where
  pub slot_there : slot < length o.slots
  pub file_there : file < length o.codes
  pub seg_there : (slot_at o slot).seg < length (unwrap_or (slice_get o.codes file) [])
  pub fits : (image_at o slot file).start + length (image_at o slot file).bytes ≤ 4294967295

-- the generation is there, and a guest holds it
pub record IsHeld (s : State) (slot age : ℕ) : Type 0 where
  pub slot_there : slot < length s.slots
  pub age_there : age < length (slot_of s slot).generations
  pub held : 1 ≤ (generation_of s slot age).attached

-- the counts of guests can rise
abbrev pub AreCounted : List Generation → Type 0
AreCounted gs = (age : ℕ) → (generation_in gs age).attached < 2 ^ 64 - 1

-- a Due of the slot is not answered
pub record MayAnswer (s : State) (slot : ℕ) : Type 0 where
  pub slot_there : slot < length s.slots
  pub due : 1 ≤ s.unanswered

-- the counts of the state are those of the journal
pub record IsCounted (s : State) (journal : List Entry) : Type 0 where
  pub attached : (slot age : ℕ) → (generation_of s slot age).attached + count_by (is_detach slot age) journal ≡ count_by (is_attach slot age) journal
  pub answered : s.unanswered + count_by is_answer journal ≡ count_by is_due journal
