-- What holds of the definitions.
use Rattle.std.specs.Prelude.{◌≡◌, ◌↔◌, ℕ, ◌/◌, Bool, List}
use Rattle.probe_tools.specs.declared.event.Event.{Event}
use Rattle.probe_tools.specs.Rows.{AreRows, Counts, access_key}

-- events have one table of rows
abbrev pub RowsAreUnique : Type 0
RowsAreUnique = (events : List Event) (a b : Counts) → AreRows events a → AreRows events b → a ≡ b

-- accesses have one key exactly where they are of one line, which has the addresses of one multiple of 64, and of one kind
abbrev pub LinesAreTold : Type 0
LinesAreTold = (x y : ℕ) (s t : Bool) → (access_key x s ≡ access_key y t) ↔ ((x / 64 ≡ y / 64) × (s ≡ t))
