-- Who calls a registry, and what its calls mean whatever others do between them.
use Rattle.std.specs.Prelude.{◌≡◌, ℕ, ◌<◌, ◌≤◌, nat_lt, true, List, [], ◌∷◌, ◌++◌, length, count_by, Option, is_some, IfSome}
use Rattle.std.specs.List.{All, Contains}
use Rattle.fragment.specs.Parts.{Parts}
use Rattle.unit_set.specs.Held.{IsFreshFor}
use Rattle.registry.specs.declared.entry.Entry.{Entry}
use Rattle.registry.specs.declared.entry.Merged.{Merged}
use Rattle.registry.specs.declared.entry.Merged.TheVariants.{Version, UnitFull}
use Rattle.registry.specs.Content.{Content, most_addrs}
use Rattle.registry.specs.Opening.{Opening}
use Rattle.registry.specs.Registry.{Told, no_unit, opened, told_all}
use Rattle.registry.specs.History.{History, is_attach, is_detach}

-- what the registry was made from, and the entries that are the holder's own, in order, each with the unit that it was handed
pub record Holder : Type 0 where
  pub opening : Opening
  pub own : List Told

-- it made this entry too
abbrev pub made : Told → Holder → Holder
made t h = record h { own = h.own ++ t ∷ [] }

-- an entry that hands out this unit
abbrev pub handing : Entry → Content → Told
handing e unit = record { entry = e; unit = unit }

-- an entry that hands out none
abbrev pub plain : Entry → Told
plain e = handing e no_unit

-- a registry that is called by one alone
abbrev pub holder_of : History → Holder
holder_of h = record { opening = h.opening; own = told_all h.opening (opened h.opening) h.journal }

-- ---- what is held

abbrev pub attaches : ℕ → ℕ → List Told → ℕ
attaches slot age own = count_by (λ t. is_attach slot age t.entry) own

abbrev pub detaches : ℕ → ℕ → List Told → ℕ
detaches slot age own = count_by (λ t. is_detach slot age t.entry) own

-- it attached the generation more often than it let it go
abbrev pub HoldsOwn : ℕ → ℕ → List Told → Type 0
HoldsOwn slot age own = detaches slot age own < attaches slot age own

-- it let no generation go more often than it attached it
abbrev pub AreCovered : List Told → Type 0
AreCovered own = (slot age : ℕ) → detaches slot age own ≤ attaches slot age own

-- it was handed a unit for this generation, and these fragments are those that are built in its image for its slot
pub record AreFreshOf (slot age : ℕ) (added : List Parts) (own : List Told) : Type 0 where
  pub told : Told
  pub there : Contains own told
  pub attached : is_attach slot age told.entry ≡ true
  pub fresh : All (IsFreshFor told.unit.slot told.unit.image) added

-- ---- what is answered

-- none exactly where there is no such module, and else a file that is there
pub record IsMapped (o : Opening) (k : ℕ) (file : Option ℕ) : Type 0 where
  pub some : is_some file ≡ nat_lt k (length o.modules)
  pub there : IfSome file (λ f. f < length o.codes)

-- a number of addresses that is told as too great is
abbrev pub IsOver : Merged → Type 0
IsOver (Version version) = Unit {0}
IsOver (UnitFull count) = most_addrs < count
