-- The bytes of an area through the three stages of a publication.
use Rattle.std.specs.Prelude.{◌≡◌, ◌≢◌, ◌⊎◌, ℕ, zero, suc, ◌<◌, ◌≤◌, List, [], ◌∷◌, length, slice_index, Option, Some, None, Result, Ok, Err, OnOk, OnErr}
use Rattle.shelf_model.specs.declared.shelf.Area.{Area}
use Rattle.shelf_model.specs.Shelf.{Told, Images, EachMoment, Torn, Passes, TellsOthers, WhereTold, Leaves, Stores, written}
use Rattle.publish.specs.declared.gates.PubErr.{PubErr}
use Rattle.publish.specs.declared.gates.PubErr.TheVariants.{ShelfFault, WornOut, Memory}
use Rattle.publish.specs.declared.area.Door.{Door}
use Rattle.publish.specs.declared.area.Door.TheVariants.{Absent, Closed, Opened}
use Rattle.publish.specs.Area.{door_of}

-- too short to hold a unit, or with a gate that is not open
abbrev pub IsShut : List ℕ → Type 0
IsShut bytes = (length bytes < 13) ⊎ (slice_index bytes 0 ≢ 165)

-- the first stage that calls the shelf: a gate that stood closed is not written again, and CloseGate counts as finished
abbrev pub first_stage : Door → ℕ
first_stage Absent = 0
first_stage Closed = 1
first_stage Opened = 0

-- after CloseGate: a gate that stood closed is left as it is
abbrev pub closed_at : Door → List ℕ → List ℕ
closed_at Absent found = written 0 (0 ∷ []) found
closed_at Opened found = written 0 (0 ∷ []) found
closed_at Closed found = found

-- after Fill
abbrev pub filled : Door → List ℕ → List ℕ → List ℕ
filled door body found = written 1 body (closed_at door found)

-- after OpenGate: as one write of the whole would have made it
abbrev pub published : List ℕ → List ℕ → List ℕ
published body found = written 0 (165 ∷ body) found

-- as the finished stages left it, but for the range of the next one that calls the shelf
abbrev pub IsLeft : ℕ → Door → List ℕ → List ℕ → List ℕ → Type 0
IsLeft zero door body found after = (first_stage door ≡ 0) × Torn 0 1 found after
IsLeft (suc zero) door body found after = Torn 1 (length body) (closed_at door found) after
IsLeft (suc (suc n)) door body found after = Torn 0 1 (filled door body found) after

-- before OpenGate: as it was found, or shut
abbrev pub IsEarly : List ℕ → List ℕ → Type 0
IsEarly found bytes = (bytes ≡ found) ⊎ IsShut bytes

-- after so many calls that did their whole
abbrev pub left_by : ℕ → Door → List ℕ → List ℕ → List ℕ
left_by zero door body found = found
left_by (suc zero) door body found = closed_at door found
left_by (suc (suc zero)) door body found = filled door body found
left_by (suc (suc (suc n))) door body found = published body found

-- what is told of the area after the stages, by their answer
abbrev pub Ends : {T : Type 0} → Result T PubErr → Option (List ℕ) → Door → List ℕ → List ℕ → Type 0
Ends (Ok done) now door body found = now ≡ Some (published body found)
Ends (Err (ShelfFault k)) now door body found = (after : List ℕ) × (now ≡ Some after) × IsLeft k door body found after
Ends (Err Memory) now door body found = (writes : ℕ) × (now ≡ Some (left_by writes door body found))
Ends (Err WornOut) now door body found = now ≡ Some found

-- What a crash leaves of the area through the stages: until OpenGate began it is early, from then on early or whole, and nothing
-- that was gone comes back.
pub record Stages (images : Images) (from to : ℕ) (name : List ℕ) (area : Area) (found body : List ℕ) (result : Result (Unit {0}) PubErr) : Type 0 where
  pub opened : ℕ
  pub after : from ≤ opened
  pub until : opened ≤ to
  pub early : EachMoment images from opened name area (IsEarly found)
  pub whole : EachMoment images from to name area (λ c. IsEarly found c ⊎ (c ≡ published body found))
  pub steady : (m k : ℕ) (c : List ℕ) → opened < m → m ≤ k → k ≤ to → images k name area c → images m name area c
  pub unopened : (n : ℕ) → result ≡ Err (ShelfFault n) → n < 2 → to ≤ opened

-- an area is never told to be shorter
abbrev pub Longer : Told → Told → List ℕ → Area → Type 0
Longer old new name area = WhereTold (old name area) (λ before. (after : List ℕ) × (new name area ≡ Some after) × (length before ≤ length after))

-- A stage: a write and its sync. Where memory ran out, each was done wholly or not at all.
pub record Stage (told0 told1 : Told) (t0 t1 : ℕ) (i0 i1 : Images) (name : List ℕ) (area : Area) (at : ℕ) (bytes : List ℕ) (result : Result (Unit {0}) PubErr) : Type 0 where
  pub stores : Stores told0 told1 t0 t1 i0 i1 name area at bytes result
  pub memory : result ≡ Err Memory → WhereTold (told0 name area) (λ found. (told1 name area ≡ Some found) ⊎ (told1 name area ≡ Some (written at bytes found)))

-- CloseGate, where the gate isn't closed already
pub record Closes (told0 told1 : Told) (t0 t1 : ℕ) (i0 i1 : Images) (name : List ℕ) (area : Area) (door : Door) (result : Result (Unit {0}) PubErr) : Type 0 where
  pub passes : Passes t0 t1 i0 i1 name area
  pub silent : told0 name area ≡ None → told1 name area ≡ None
  pub longer : Longer told0 told1 name area
  pub others : TellsOthers told0 told1 name area
  pub ok : OnOk result (WhereTold (told0 name area) (λ found. told1 name area ≡ Some (closed_at door found)))
  pub broken : OnErr result (WhereTold (told0 name area) (λ found. (after : List ℕ) × (told1 name area ≡ Some after) × Torn 0 1 found after))
  pub memory : result ≡ Err Memory → WhereTold (told0 name area) (λ found. (told1 name area ≡ Some found) ⊎ (told1 name area ≡ Some (closed_at door found)))
  pub settled : OnOk result (WhereTold (told0 name area) (λ found. Leaves i0 t0 name area found → Leaves i1 t1 name area (closed_at door found)))
  pub early : WhereTold (told0 name area) (λ found. door ≡ door_of found → Leaves i0 t0 name area found → EachMoment i1 t0 t1 name area (IsEarly found))

-- the three stages
pub record Runs (told0 told1 : Told) (t0 t1 : ℕ) (i0 i1 : Images) (name : List ℕ) (area : Area) (door : Door) (body : List ℕ) (result : Result (Unit {0}) PubErr) : Type 0 where
  pub passes : Passes t0 t1 i0 i1 name area
  pub silent : told0 name area ≡ None → told1 name area ≡ None
  pub longer : Longer told0 told1 name area
  pub others : TellsOthers told0 told1 name area
  pub told : WhereTold (told0 name area) (Ends result (told1 name area) door body)
  pub settled : OnOk result (WhereTold (told1 name area) (Leaves i1 t1 name area))
  pub crash : WhereTold (told0 name area) (λ found. door ≡ door_of found → Leaves i0 t0 name area found → Stages i1 t0 t1 name area found body result)
