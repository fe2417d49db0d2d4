-- What a slot holds through many publications.
use Rattle.std.specs.Prelude.{ℕ, ◌≤◌, List, Contains, Option}
use Rattle.shelf_model.specs.Shelf.{Images}
use Rattle.unit_set.specs.Slot.{Slot}
use Rattle.publish.specs.Area.{Edition, seq_of}
use Rattle.publish.specs.Crash.{EachHolds, NeverFalls}

-- from the one moment to the other what a crash leaves holds one of these, and never one of a lesser seq than before
pub record Follows (images : Images) (from to : ℕ) (slot : Slot) (all : List (Option Edition)) : Type 0 where
  pub each : EachHolds images from to slot (λ q. Contains all q)
  pub never_falls : NeverFalls images from to slot

-- from the one moment on it never holds less than this
abbrev pub AtLeast : Images → ℕ → ℕ → Slot → Option Edition → Type 0
AtLeast images from to slot q = EachHolds images from to slot (λ p. seq_of q ≤ seq_of p)
