-- What the calls answer.
use Rattle.std.specs.Prelude.{◌≡◌, ℕ, ◌≤◌, ◌<◌, List, length}
use Rattle.unit_set.specs.Slot.{Slot}
use Rattle.slot_list.specs.declared.slots.SlotsErr.{SlotsErr}
use Rattle.slot_list.specs.declared.slots.SlotsErr.TheVariants.{TooMany, Memory}

-- these are the slots, and there are 64 at most
pub record Lists (slots listed : List Slot) : Type 0 where
  pub all : listed ≡ slots
  pub few : length slots ≤ 64

-- there are so many slots, which is over 64
pub record AreTooMany (slots : List Slot) (n : ℕ) : Type 0 where
  pub number : n ≡ length slots
  pub many : 64 < length slots

-- the slots are refused for their number, or memory ran out
abbrev pub Refuses : List Slot → SlotsErr → Type 0
Refuses slots (TooMany n) = AreTooMany slots n
Refuses slots Memory = Unit {0}
