-- What the calls of a shelf do to its areas, and what a crash may leave of them at each moment.
use Rattle.std.specs.Prelude.{Result, OnOk, OnErr, ◌≡◌, ◌≢◌, ◌⊎◌, ◌↔◌, ℕ, ◌+◌, ◌<◌, ◌≤◌, max, List, ◌++◌, length, take, drop, replicate, slice_index, Option, Some, None}
use Rattle.shelf_model.specs.declared.shelf.Area.{Area}

-- what a read of an area gives, where it is told
abbrev pub Told : Type 0
Told = List ℕ → Area → Option (List ℕ)

-- what a crash may leave in an area at a moment
abbrev pub Images : Type 1
Images = ℕ → List ℕ → Area → List ℕ → Type 0

-- a change of an area's bytes
abbrev pub Step : Type 1
Step = List ℕ → List ℕ → Type 0

-- another area, of this name or of another
abbrev pub IsOther : List ℕ → Area → List ℕ → Area → Type 0
IsOther name area n b = (n ≢ name) ⊎ (b ≢ area)

-- where something is told, it has P
abbrev pub WhereTold : Option (List ℕ) → (List ℕ → Type 0) → Type 0
WhereTold told P = (bytes : List ℕ) → told ≡ Some bytes → P bytes

-- what is told of no area changes
abbrev pub TellsSame : Told → Told → Type 0
TellsSame old new = (n : List ℕ) (b : Area) → new n b ≡ old n b

-- what is told of every other area stays
abbrev pub TellsOthers : Told → Told → List ℕ → Area → Type 0
TellsOthers old new name area = (n : List ℕ) (b : Area) → IsOther name area n b → new n b ≡ old n b

-- the content after a write, with zeros in a gap before it
unfoldable pub written : ℕ → List ℕ → List ℕ → List ℕ
written at bytes old = take at (old ++ replicate at 0) ++ bytes ++ drop (at + length bytes) old

-- after a write of n bytes that is cut short or fails: any bytes in its range and past the old end, all others as before
pub record Torn (at n : ℕ) (old new : List ℕ) : Type 0 where
  pub no_shorter : length old ≤ length new
  pub no_longer : length new ≤ max (length old) (at + n)
  pub same : (i : ℕ) → i < length old → (i < at) ⊎ (at + n ≤ i) → slice_index new i ≡ slice_index old i

-- Moments go on. What stood at an earlier one stands. At each one since, the area has only images that the step makes of one
-- before, and within the call it gains none. The other areas gain none at all.
pub record Elapses (before now : ℕ) (past since : Images) (name : List ℕ) (area : Area) (step : Step) : Type 0 where
  pub later : before ≤ now
  pub keeps : (m : ℕ) (n : List ℕ) (b : Area) (c : List ℕ) → m ≤ before → past m n b c ↔ since m n b c
  pub others : (m k : ℕ) (n : List ℕ) (b : Area) (c : List ℕ) → before ≤ m → m ≤ k → k ≤ now → IsOther name area n b → since k n b c → since m n b c
  pub this : (m : ℕ) (c : List ℕ) → before < m → m ≤ now → since m name area c → (d : List ℕ) × past before name area d × step d c
  pub steady : (m k : ℕ) (c : List ℕ) → before < m → m ≤ k → k ≤ now → since k name area c → since m name area c

-- Moments go on, and no area gains an image.
pub record Rests (before now : ℕ) (past since : Images) : Type 0 where
  pub later : before ≤ now
  pub keeps : (m : ℕ) (n : List ℕ) (b : Area) (c : List ℕ) → m ≤ before → past m n b c ↔ since m n b c
  pub fewer : (m k : ℕ) (n : List ℕ) (b : Area) (c : List ℕ) → before ≤ m → m ≤ k → k ≤ now → since k n b c → since m n b c

-- Moments go on, and at each one since, every area has just the images that it had.
pub record Stands (before now : ℕ) (past since : Images) : Type 0 where
  pub later : before ≤ now
  pub keeps : (m : ℕ) (n : List ℕ) (b : Area) (c : List ℕ) → m ≤ before → past m n b c ↔ since m n b c
  pub same : (m : ℕ) (n : List ℕ) (b : Area) (c : List ℕ) → before ≤ m → m ≤ now → past before n b c ↔ since m n b c

-- a crash now leaves these bytes, and nothing else
abbrev pub Leaves : Images → ℕ → List ℕ → Area → List ℕ → Type 0
Leaves images now name area bytes = (c : List ℕ) → images now name area c → c ≡ bytes

-- at each moment from the one to the other, each image of the area has P
abbrev pub EachMoment : Images → ℕ → ℕ → List ℕ → Area → (List ℕ → Type 0) → Type 0
EachMoment images from to name area P = (m : ℕ) (c : List ℕ) → from ≤ m → m ≤ to → images m name area c → P c

-- as `Elapses` for several calls on one area, whatever they do to it: each image that it has at a moment has one behind it
-- at each moment before
pub record Passes (before now : ℕ) (past since : Images) (name : List ℕ) (area : Area) : Type 0 where
  pub later : before ≤ now
  pub keeps : (m : ℕ) (n : List ℕ) (b : Area) (c : List ℕ) → m ≤ before → past m n b c ↔ since m n b c
  pub others : (m k : ℕ) (n : List ℕ) (b : Area) (c : List ℕ) → before ≤ m → m ≤ k → k ≤ now → IsOther name area n b → since k n b c → since m n b c
  pub some : (m k : ℕ) (c : List ℕ) → before ≤ m → m ≤ k → k ≤ now → since k name area c → (d : List ℕ) × since m name area d

-- what a write and its sync did
pub record Stores {E : Type 0} (told0 told1 : Told) (t0 t1 : ℕ) (i0 i1 : Images) (name : List ℕ) (area : Area) (at : ℕ) (bytes : List ℕ) (result : Result (Unit {0}) E) : Type 0 where
  pub ok : OnOk result (WhereTold (told0 name area) (λ before. told1 name area ≡ Some (written at bytes before)))
  pub broken : OnErr result (WhereTold (told0 name area) (λ before. (after : List ℕ) × (told1 name area ≡ Some after) × Torn at (length bytes) before after))
  pub silent : told0 name area ≡ None → told1 name area ≡ None
  pub others : TellsOthers told0 told1 name area
  pub settled : OnOk result (WhereTold (told1 name area) (Leaves i1 t1 name area))
  pub time : Elapses t0 t1 i0 i1 name area (Torn at (length bytes))
