-- What holds of admission.
use Rattle.std.specs.Prelude.{◌≡◌, ◌↔◌, ℕ, ◌≤◌, Result, Ok, Err}
use Rattle.std.specs.List.{All}
use Rattle.unit_set.specs.Raw.{Raw}
use Rattle.unit_set.specs.Slot.{Slot}
use Rattle.unit_set.specs.Held.{Held, IsUnit}
use Rattle.unit_format.specs.declared.header.Version.{Version}
use Rattle.unit_format.specs.Text.{text, HasTexts, IsRaw}
use Rattle.unit_format.specs.Reading.{unit_of}
use Rattle.unit_format.specs.Units.{raw_of}
use Rattle.unit_check.specs.declared.admission.AdmitErr.{AdmitErr}
use Rattle.unit_check.specs.declared.admission.AdmitErr.TheVariants.{NotFresh, Memory}
use Rattle.unit_check.specs.Admission.{IsFresh, HasLinks, addresses_in, held_of, Admits}

-- there is one answer, memory aside
abbrev pub AnswersAreOne : Type 0
AnswersAreOne = (raw : Raw) (slot : Slot) (a b : Result Held AdmitErr) → Admits raw slot a → Admits raw slot b → (a ≡ Err Memory → ⊥) → (b ≡ Err Memory → ⊥) → a ≡ b

-- a unit is admitted just where its slot is equal, every fragment is the one built and every link the defined one
abbrev pub JustTheRight : Type 0
JustTheRight = (v : Version) (raw : Raw) (slot : Slot) → IsRaw v raw
    → Admits raw slot (Ok (held_of raw)) ↔ ((raw.slot ≡ slot) × All (IsFresh slot raw.image) raw.frags × All (HasLinks (addresses_in raw.frags)) raw.frags)

-- the address told is the least of those whose fragment is not the one built
abbrev pub LeastIsTold : Type 0
LeastIsTold = (v : Version) (raw : Raw) (slot : Slot) (address : ℕ) → IsRaw v raw → Admits raw slot (Err (NotFresh address))
    → All (λ f. (IsFresh slot raw.image f → ⊥) → address ≤ f.frag.address) raw.frags

-- the texts of a unit, in both versions, are read, and what is read is admitted as the unit
abbrev pub TextsAreAdmitted : Type 0
TextsAreAdmitted = (v : Version) (u : Held) → IsUnit u → HasTexts v u.slot.isa
    → (unit_of (text v (raw_of u)) ≡ Ok (raw_of u)) × ((a : Result Held AdmitErr) → Admits (raw_of u) u.slot a → (a ≡ Err Memory → ⊥) → a ≡ Ok u)
