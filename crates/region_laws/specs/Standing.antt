-- Regions that stand, and code that is there.
use Rattle.std.specs.Prelude.{◌≡◌, ℕ, ◌+◌, ◌<◌, Bool, List, [], ◌∷◌, length, Option, Some}
use Rattle.cc_base.specs.Image.{Code}
use Rattle.plain_machine.specs.declared.io.Heap.{Heap}
use Rattle.plain_machine.specs.Memory.{Memory, code_at, region_from}
use Rattle.plain_machine.specs.Program.{Segment, area_of}
use Rattle.engine.specs.Standing.{shape}
use Rattle.region_laws.specs.Heap.{heap_at}

-- a region of this shape starts at x, and it is not the heap's
pub record Stands (m : Memory) (heap : Option Heap) (x : ℕ) (kind : Option (Bool × ℕ)) : Type 0 where
  pub there : shape (region_from m x) ≡ kind
  pub apart : heap_at heap ≡ Some x → ⊥

-- the regions that stood do, but for the heap's
abbrev pub StandOn : Memory → Option Heap → Memory → Option Heap → Type 0
StandOn m heap after now = (x : ℕ) (kind : Bool × ℕ) → Stands m heap x (Some kind) → Stands after now x (Some kind)

-- the regions of all segments, at this base, stand
abbrev pub AllStand : Memory → Option Heap → ℕ → List Segment → Type 0
AllStand m heap base [] = Unit {0}
AllStand m heap base (s ∷ ss) = Stands m heap (base + s.vaddr) (shape (Some (area_of base s))) × AllStand m heap base ss

-- each of these codes stands in memory
abbrev pub AreThere : List Code → Memory → Type 0
AreThere [] m = Unit {0}
AreThere (c ∷ cs) m = (0 < length c.bytes) × (code_at m c.start ≡ Some c) × AreThere cs m
