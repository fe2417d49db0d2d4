-- What an attach answers of the generations of a slot.
use Rattle.std.specs.Prelude.{◌≡◌, List}
use Rattle.std.specs.Arc.{arc_value}
use Rattle.registry.specs.declared.slot.Attached.{Attached}
use Rattle.registry.specs.Content.{Content, content_of}
use Rattle.registry.specs.State.{Generation}
use Rattle.registry.specs.Registry.{age_of, attach_age, attach_generation, held}

-- the answer is the generation with the image of this unit, a new one where there is none
pub record IsGeneration (unit : Content) (gs : List Generation) (a : Attached) : Type 0 where
  pub age : a.age ≡ attach_age (age_of unit.image gs) gs
  pub version : a.version ≡ (attach_generation unit gs (age_of unit.image gs)).version
  pub handed : content_of (arc_value a.unit) ≡ (attach_generation unit gs (age_of unit.image gs)).unit

pub record Holds (unit : Content) (old new : List Generation) (a : Attached) : Type 0 where
  pub told : IsGeneration unit old a
  pub generations : new ≡ held unit old
