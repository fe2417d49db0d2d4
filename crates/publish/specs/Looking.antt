-- What areas are taken for, on the way to what a load answers.
use Rattle.std.specs.Prelude.{◌≡◌, ℕ, List, Option, Some, None, Ok, Err}
use Rattle.shelf_model.specs.declared.shelf.Area.{Area}
use Rattle.shelf_model.specs.Shelf.{Told}
use Rattle.unit_set.specs.Raw.{Raw}
use Rattle.unit_set.specs.Slot.{Slot, slot_text}
use Rattle.unit_format.specs.Reading as reading
use Rattle.unit_check.specs.declared.admission.AdmitErr.TheVariants as refusals
use Rattle.unit_check.specs.Admission.{Admits}
use Rattle.publish.specs.declared.area.Verdict.{Verdict}
use Rattle.publish.specs.declared.area.Verdict.TheVariants.{Empty, Closed, TooLong, Text, Foreign, NotFresh, BadLink, Fine}
use Rattle.publish.specs.declared.area.Reading.{Reading}
use Rattle.publish.specs.declared.area.Reading.TheVariants.{Refused, Taken}
use Rattle.publish.specs.declared.loading.Looked.{Looked}
use Rattle.publish.specs.declared.loading.Found.{Found}
use Rattle.publish.specs.Area.{Edition, which, better, door_in, seq_of, unit_of}
use Rattle.publish.specs.Verdict.{IsVerdict, IsTextVerdict, admitted, edition_of, fine}
use Rattle.publish.specs.Load.{AgreesWith}

abbrev pub verdict_in : Reading → Verdict
verdict_in (Refused verdict) = verdict
verdict_in (Taken seq unit) = Fine

abbrev pub edition_in : Reading → Option Edition
edition_in (Refused verdict) = None
edition_in (Taken seq unit) = Some (record { seq = seq; unit = unit })

-- what a unit that was read is taken for
abbrev pub IsRawReading : Slot → ℕ → Raw → Reading → Type 0
IsRawReading slot seq raw (Taken n u) = (n ≡ seq) × Admits raw slot (Ok u)
IsRawReading slot seq raw (Refused Foreign) = Admits raw slot (Err refusals.Foreign)
IsRawReading slot seq raw (Refused (NotFresh address)) = Admits raw slot (Err (refusals.NotFresh address))
IsRawReading slot seq raw (Refused (BadLink address exit)) = Admits raw slot (Err (refusals.BadLink address exit))
IsRawReading slot seq raw (Refused Empty) = ⊥
IsRawReading slot seq raw (Refused Closed) = ⊥
IsRawReading slot seq raw (Refused TooLong) = ⊥
IsRawReading slot seq raw (Refused (Text e)) = ⊥
IsRawReading slot seq raw (Refused Fine) = ⊥

-- what a text is taken for
pub record IsTextReading (slot : Slot) (seq : ℕ) (text : List ℕ) (r : Reading) : Type 0 where
  pub verdict : IsTextVerdict slot text (verdict_in r)
  pub edition : edition_of seq (admitted slot (reading.unit_of text)) ≡ edition_in r

-- what an area's bytes are taken for
pub record IsReading (slot : Slot) (bytes : List ℕ) (r : Reading) : Type 0 where
  pub verdict : IsVerdict slot bytes (verdict_in r)
  pub edition : fine slot bytes ≡ edition_in r

-- an area of these bytes, as it was looked at
pub record IsSeen (slot : Slot) (bytes : List ℕ) (l : Looked) : Type 0 where
  pub reading : IsReading slot bytes l.reading
  pub door : l.door ≡ door_in bytes

-- an area of some bytes, which are those that are told, was looked at
pub record Sees (told : Told) (slot : Slot) (area : Area) (l : Looked) : Type 0 where
  pub bytes : List ℕ
  pub agrees : AgreesWith told (slot_text slot) area bytes
  pub seen : IsSeen slot bytes l

-- what two areas that were looked at make
pub record IsFoundOf (first second : Looked) (f : Found) : Type 0 where
  pub a : f.a ≡ verdict_in first.reading
  pub b : f.b ≡ verdict_in second.reading
  pub unit : f.unit ≡ unit_of (better (edition_in first.reading) (edition_in second.reading))
  pub seq : f.standing.seq ≡ seq_of (better (edition_in first.reading) (edition_in second.reading))
  pub held : f.standing.held ≡ which (edition_in first.reading) (edition_in second.reading)
  pub door_a : f.standing.a ≡ first.door
  pub door_b : f.standing.b ≡ second.door
