-- Places of probes in a block.
use Rattle.std.specs.Prelude.{◌≡◌, ℕ, ◌+◌, ◌<◌, ◌≤◌, ◌==◌, ◌⊎◌, None}
use Rattle.probe_tools.specs.declared.tool.Tool.{Tool}
use Rattle.probe_tools.specs.declared.probe.Class.{Class}
use Rattle.probe_tools.specs.Probes.{probe_of}

-- the tool has no probe in a block of so many words but at the places of this range
pub record HasAllPlaces (tool : Tool) (count low high : ℕ) : Type 0 where
  pub within : low ≤ high
  pub at_most : high ≤ count
  pub none : (class : Class) (place : ℕ) → place < count → (place < low) ⊎ (high ≤ place) → probe_of tool class place (place + 1 == count) ≡ None
