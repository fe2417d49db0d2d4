-- What holds of the texts of units.
use Rattle.std.specs.Prelude.{◌≡◌, ℕ, ◌<◌, ◌≤◌, ◌↔◌, List, [], ◌++◌, length, Ok, Err, slice_index_or}
use Rattle.unit_set.specs.Raw.{Raw}
use Rattle.unit_format.specs.declared.error.TextErr.{TextErr}
use Rattle.unit_format.specs.declared.error.TextErr.TheVariants.{Short, Trailing}
use Rattle.unit_format.specs.declared.header.Version.{Version}
use Rattle.unit_set.specs.Held.{Held, IsUnit}
use Rattle.unit_format.specs.Text.{text, HasTexts, IsRaw, Spells}
use Rattle.unit_format.specs.Units.{raw_of}
use Rattle.unit_format.specs.Reading.{unit_of}

-- a unit has a text of each version that has texts of its instruction set
abbrev pub UnitsHaveTexts : Type 0
UnitsHaveTexts = (v : Version) (u : Held) → IsUnit u → HasTexts v u.slot.isa → IsRaw v (raw_of u)

-- a text fits an area file of 4,194,304 bytes, behind 13 others
abbrev pub TextsAreShort : Type 0
TextsAreShort = (v : Version) (u : Raw) → IsRaw v u → length (text v u) ≤ 4194291

-- no text of either version begins another
abbrev pub NoneBeginsAnother : Type 0
NoneBeginsAnother = (v w : Version) (a b : Raw) (x y : List ℕ) → IsRaw v a → IsRaw w b → text v a ++ x ≡ text w b ++ y → (v ≡ w) × (a ≡ b) × (x ≡ y)

-- the texts of a unit are read as the unit
abbrev pub TextsAreRead : Type 0
TextsAreRead = (v : Version) (u : Raw) → IsRaw v u → unit_of (text v u) ≡ Ok u

-- just what is spelled is read, with the one reading
abbrev pub ReadsWhatIsSpelled : Type 0
ReadsWhatIsSpelled = (bytes : List ℕ) (u : Raw) → ((i : ℕ) → slice_index_or bytes i 0 < 256) → (unit_of bytes ≡ Ok u) ↔ ((v : Version) × Spells v bytes u)

-- a refusal for another cause than that bytes lack, or are left over, stands whatever follows
abbrev pub RefusalsStand : Type 0
RefusalsStand = (bytes more : List ℕ) (e : TextErr) → (e ≡ Short → ⊥) → (e ≡ Trailing → ⊥) → unit_of bytes ≡ Err e → unit_of (bytes ++ more) ≡ Err e

-- a text that is cut off anywhere lacks bytes
abbrev pub FrontsAreShort : Type 0
FrontsAreShort = (v : Version) (u : Raw) (front rest : List ℕ) → IsRaw v u → text v u ≡ front ++ rest → (rest ≡ [] → ⊥) → unit_of front ≡ Err Short
