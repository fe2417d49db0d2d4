-- What a holder keeps of its own entries.
use Rattle.std.specs.Prelude.{◌≡◌, ℕ, false, List, [], ◌∷◌, ◌++◌}
use Rattle.std.specs.List.{All}
use Rattle.fragment.specs.Parts.{Parts}
use Rattle.unit_set.specs.Held.{IsFreshFor}
use Rattle.registry.specs.declared.entry.Entry.TheVariants.{Attach, Detach}
use Rattle.registry.specs.Content.{Content}
use Rattle.registry.specs.Registry.{Told, reg}
use Rattle.registry.specs.History.{History, IsCounted, is_detach}
use Rattle.registrar.specs.Calls.{AreCovered, AreFreshOf, HoldsOwn, handing, holder_of, plain}

-- what was attached last is held
abbrev pub AttachedIsHeld : Type 0
AttachedIsHeld = (own : List Told) (guest slot file age version : ℕ) (unit : Content) → AreCovered own → HoldsOwn slot age (own ++ handing (Attach guest slot file age version) unit ∷ [])

-- fragments that are built in the image of the unit that was handed out last are fresh of its generation
abbrev pub AttachedIsFresh : Type 0
AttachedIsFresh = (own : List Told) (guest slot file age version : ℕ) (unit : Content) (added : List Parts) → All (IsFreshFor unit.slot unit.image) added
    → AreFreshOf slot age added (own ++ handing (Attach guest slot file age version) unit ∷ [])

-- what is held is held behind an entry that doesn't let it go
abbrev pub HeldStays : Type 0
HeldStays = (own : List Told) (t : Told) (slot age : ℕ) → is_detach slot age t.entry ≡ false → HoldsOwn slot age own → HoldsOwn slot age (own ++ t ∷ [])

-- fragments that are built in the image of a unit that was handed out are so behind further entries
abbrev pub FreshStays : Type 0
FreshStays = (own more : List Told) (slot age : ℕ) (added : List Parts) → AreFreshOf slot age added own → AreFreshOf slot age added (own ++ more)

-- behind an entry that lets none go no generation was let go more often than it was attached
abbrev pub CoveredStays : Type 0
CoveredStays = (own : List Told) (t : Told) → ((slot age : ℕ) → is_detach slot age t.entry ≡ false) → AreCovered own → AreCovered (own ++ t ∷ [])

-- nor behind one that lets go what is held
abbrev pub CoveredLetGo : Type 0
CoveredLetGo = (own : List Told) (guest slot age : ℕ) → HoldsOwn slot age own → AreCovered own → AreCovered (own ++ plain (Detach guest slot age) ∷ [])

-- in a registry none was let go more often than it was attached
abbrev pub RegistryIsCovered : Type 0
RegistryIsCovered = (h : History) → IsCounted (reg h.opening h.journal) h.journal → AreCovered (holder_of h).own
