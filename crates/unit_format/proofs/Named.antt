-- What the reading of a slot's name tells.
use Rattle.std.proofs.Common.{◌≡◌, ℕ, List, Option, Some, None, Err, refl, subst}
use Rattle.unit_set.specs.declared.slot.NameErr.{NameErr}
use Rattle.unit_set.specs.declared.slot.NameErr.TheVariants.{Bad}
use Rattle.unit_set.specs.Slot.{Slot, IsSlot, slot_text, slot_of}
use Rattle.unit_set.specs.Naming.{Reads}
use Rattle.unit_set.specs.Laws.{NamesAreRead}
use Rattle.unit_format.specs.declared.error.TextErr.{TextErr}
use Rattle.unit_format.specs.Steps.{known}

module _ (read : NamesAreRead) (bytes : List ℕ) (e : TextErr) where
  none_there : (o : Option Slot) → slot_of bytes ≡ o → ((s : Slot) → IsSlot s → slot_text s ≡ bytes → ⊥) → known o e ≡ Err e
  none_there (Some s) is none = let p = (read bytes s).0 is in absurd (none s p.0 p.1)
  none_there None is none = refl

  -- no name is spelled so
  pub unnamed : (cause : NameErr) → cause ≡ Bad → Reads bytes (Err cause) → known (slot_of bytes) e ≡ Err e
  unnamed cause bad reads = none_there (slot_of bytes) refl (subst (λ x. Reads bytes (Err x)) bad reads)
