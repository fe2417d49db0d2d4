-- The entries of a guest, by what it asks.
use Rattle.std.specs.Prelude.{◌≡◌, ℕ, ◌/◌, ◌%◌, List, [], ◌∷◌, slice_get, unwrap_or, Some}
use Rattle.std.specs.Ordering.{nat_cmp}
use Rattle.std.specs.FinMap as fin
use Rattle.manifest.specs.Entries.{ModuleEntry}
use Rattle.unit_set.specs.Slot.{Slot}
use Rattle.slot_list.specs.Recipe.{Recipe}
use Rattle.slot_list.specs.Slots.{slot_for}
use Rattle.block_ledger.specs.Requests.{Request, AsksFile, AsksUnit, Offers, LetsGo, MakesBe, Asking}
use Rattle.registry.specs.declared.entry.Entry.{Entry}
use Rattle.registry.specs.declared.entry.Entry.TheVariants as entries
use Rattle.registry.specs.Registry.{AsksMap, AsksReplace, AsksAttach, AsksMerge, AsksDetach, Told, ask_of}

-- a guest as its calls name it: its number, and what the slots of its segments are found by
pub record Caller : Type 0 where
  pub guest : ℕ
  pub modules : List ModuleEntry
  pub slots : List Slot
  pub recipe : Recipe

-- number `slot` is the slot of segment i, which is segment i % 4 of module i / 4
pub record IsSlotOf (c : Caller) (i slot : ℕ) : Type 0 where
  pub row : ModuleEntry
  pub known : slice_get c.modules (i / 4) ≡ Some row
  pub there : slice_get c.slots slot ≡ Some (slot_for row (i % 4) c.recipe)

-- the generation that the guest holds of the slot of a segment, by the number of the segment
abbrev pub Ages : Type 0
Ages = fin.FinMap nat_cmp ℕ

abbrev pub age_of : Ages → ℕ → ℕ
age_of ages i = unwrap_or (fin.get ages i) 0

-- the entry is of the call that a request makes
abbrev pub IsOf : Caller → Ages → Request → Entry → Type 0
IsOf c ages (AsksFile k) e = ask_of e ≡ AsksMap c.guest k
IsOf c ages (AsksUnit i f) e = (slot : ℕ) × IsSlotOf c i slot × (ask_of e ≡ AsksAttach c.guest slot f)
IsOf c ages (Offers i addresses) e = (slot : ℕ) × IsSlotOf c i slot × (ask_of e ≡ AsksMerge c.guest slot (age_of ages i) addresses)
IsOf c ages (LetsGo i) e = (slot : ℕ) × IsSlotOf c i slot × (ask_of e ≡ AsksDetach c.guest slot (age_of ages i))
IsOf c ages (MakesBe k f) e = ask_of e ≡ AsksReplace c.guest k f

-- the generation that an entry tells is held for segment i
abbrev pub with_told : ℕ → Entry → Ages → Ages
with_told i (entries.Attach guest slot file age version) ages = fin.insert ages i age
with_told i _ ages = ages

-- what is held behind a request and its entry
abbrev pub ages_behind : Request → Entry → Ages → Ages
ages_behind (AsksFile k) e ages = ages
ages_behind (AsksUnit i f) e ages = with_told i e ages
ages_behind (Offers i addresses) e ages = ages
ages_behind (LetsGo i) e ages = fin.remove ages i
ages_behind (MakesBe k f) e ages = ages

-- these entries are those of these requests, one for each, where these generations are held before
abbrev pub AreMade : Caller → Ages → List Asking → List Told → Type 0
AreMade c ages [] [] = Unit {0}
AreMade c ages [] (t ∷ ts) = ⊥
AreMade c ages (r ∷ rs) [] = ⊥
AreMade c ages (r ∷ rs) (t ∷ ts) = IsOf c ages r.request t.entry × AreMade c (ages_behind r.request t.entry ages) rs ts

-- what is held behind them
abbrev pub last_ages : Ages → List Asking → List Told → Ages
last_ages ages [] ts = ages
last_ages ages (r ∷ rs) [] = ages
last_ages ages (r ∷ rs) (t ∷ ts) = last_ages (ages_behind r.request t.entry ages) rs ts
