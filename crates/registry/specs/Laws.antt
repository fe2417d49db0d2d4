-- What calls of a registry may rest on what came before.
use Rattle.std.specs.Prelude.{◌≡◌, ℕ, ◌+◌, ◌<◌, ◌≤◌, List, ◌∷◌, ◌++◌, length, count_by, Some, true}
use Rattle.unit_set.specs.Sets.{has}
use Rattle.registry.specs.declared.entry.Entry.{Entry}
use Rattle.registry.specs.declared.entry.Entry.TheVariants.{Map, Attach, Merge, Due}
use Rattle.registry.specs.declared.entry.Merged.{Merged}
use Rattle.registry.specs.Content.{Content}
use Rattle.registry.specs.Opening.{Opening}
use Rattle.registry.specs.Registry.{attaches_generation, generation_of, opened, reg, AreReplied, IsReplied}
use Rattle.registry.specs.History.{History, Adds, AreFiles, IsCounted, IsHeld, MayAnswer, is_attach, is_detach, state_of}

-- a guest holds the generation, whose unit is the one that it was handed
pub record IsAttached (old new : History) (slot file age : ℕ) : Type 0 where
  pub held : IsHeld (state_of new) slot age
  pub unit : (generation_of (state_of new) slot age).unit ≡ (attaches_generation old.opening (state_of old) slot file).unit

abbrev pub AttachesHold : Type 0
AttachesHold = (old new : History) (guest slot file age version : ℕ) → slot < length (state_of old).slots → Adds old (Attach guest slot file age version) new →
    IsAttached old new slot file age

-- a merge lets no generation go
abbrev pub MergesKeep : Type 0
MergesKeep = (old new : History) (guest slot age : ℕ) (addrs : List ℕ) (reply : Merged) (s a : ℕ) → Adds old (Merge guest slot age addrs reply) new →
    IsHeld (state_of old) s a → IsHeld (state_of new) s a

-- what is due may be answered
abbrev pub DuesMayBeAnswered : Type 0
DuesMayBeAnswered = (old new : History) (slot age version : ℕ) → Adds old (Due slot age version) new → MayAnswer (state_of new) slot

-- the same slot and image, and no address less
pub record GoesOn (old new : Content) : Type 0 where
  pub slot : new.slot ≡ old.slot
  pub image : new.image ≡ old.image
  pub addrs : (a : ℕ) → has a old.addrs ≡ true → has a new.addrs ≡ true

-- what an attach handed out goes on as the unit of its generation
abbrev pub AttachesGoOn : Type 0
AttachesGoOn = (o : Opening) (before more : List Entry) (guest slot file age version : ℕ) → AreReplied o (opened o) (before ++ Attach guest slot file age version ∷ more)
    → slot < length (reg o (before ++ Attach guest slot file age version ∷ more)).slots
    → GoesOn (attaches_generation o (reg o before) slot file).unit (generation_of (reg o (before ++ Attach guest slot file age version ∷ more)) slot age).unit

-- each generation was let go as often as it was attached
abbrev pub AreLetGo : List Entry → Type 0
AreLetGo es = (slot age : ℕ) → count_by (is_detach slot age) es ≡ count_by (is_attach slot age) es

-- where all before it let go, a guest holds what it attached more often than it let it go
abbrev pub HoldsItsOwn : Type 0
HoldsItsOwn = (old new : History) (more : List Entry) (slot age : ℕ) → AreLetGo old.journal → new ≡ record old { journal = old.journal ++ more } → IsCounted (state_of new) new.journal
    → count_by (is_detach slot age) more + 1 ≤ count_by (is_attach slot age) more → IsHeld (state_of new) slot age

-- a file that a module is told to be is there
abbrev pub MapsAreThere : Type 0
MapsAreThere = (o : Opening) (journal : List Entry) (guest k file : ℕ) → AreFiles o → IsReplied o (reg o journal) (Map guest k (Some file)) → file < length o.codes
