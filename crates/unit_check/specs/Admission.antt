-- What admission answers of a unit that was read, by cases.
use Rattle.std.specs.Prelude.{◌≡◌, ℕ, List, map, Result, Ok, Err}
use Rattle.std.specs.List.{All}
use Rattle.cc_base.specs.Image.{Code}
use Rattle.unit_set.specs.Raw.{Tied, Raw}
use Rattle.unit_set.specs.Slot.{Slot}
use Rattle.unit_set.specs.Held.{IsFreshFor}
use Rattle.unit_set.specs.Held.{Held, IsUnit}
use Rattle.unit_format.specs.Units.{links_at, raw_of}
use Rattle.unit_check.specs.declared.admission.AdmitErr.{AdmitErr}
use Rattle.unit_check.specs.declared.admission.AdmitErr.TheVariants.{Foreign, NotFresh, BadLink, Memory}
use Rattle.unit_check.specs.First.{IsFirstNot, IsFirstOther}

abbrev pub IsFresh : Slot → Code → Tied → Type 0
IsFresh slot image f = IsFreshFor slot image f.frag

abbrev pub addresses_in : List Tied → List ℕ
addresses_in fs = map (λ f. f.frag.address) fs

-- the unit of these fragments, without their links
abbrev pub held_of : Raw → Held
held_of raw = record { slot = raw.slot; image = raw.image; frags = map (λ f. f.frag) raw.frags }

-- its links are those defined where fragments stand at these addresses
abbrev pub HasLinks : List ℕ → Tied → Type 0
HasLinks addrs f = f.links ≡ links_at addrs f.frag.exits

-- the first that is not the one built stands at this address
abbrev pub IsFirstStale : Slot → Code → List Tied → ℕ → Type 0
IsFirstStale slot image fs address = (f : Tied) × (IsFirstNot (IsFresh slot image) fs f × (f.frag.address ≡ address))

-- the first link that is not the defined one is that of this exit of the fragment at this address
abbrev pub IsFirstBad : List ℕ → List Tied → ℕ → ℕ → Type 0
IsFirstBad addrs fs address exit = (f : Tied) × (IsFirstNot (HasLinks addrs) fs f × (f.frag.address ≡ address) × IsFirstOther f.links (links_at addrs f.frag.exits) exit)

abbrev pub Admits : Raw → Slot → Result Held AdmitErr → Type 0
Admits raw slot (Ok u) = IsUnit u × (u.slot ≡ slot) × (raw_of u ≡ raw)
Admits raw slot (Err Foreign) = raw.slot ≡ slot → ⊥
Admits raw slot (Err (NotFresh address)) = (raw.slot ≡ slot) × IsFirstStale slot raw.image raw.frags address
Admits raw slot (Err (BadLink address exit)) = (raw.slot ≡ slot) × All (IsFresh slot raw.image) raw.frags × IsFirstBad (addresses_in raw.frags) raw.frags address exit
Admits raw slot (Err Memory) = Unit {0}
