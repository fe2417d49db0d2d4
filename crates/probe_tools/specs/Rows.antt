-- The rows of a report: one for each key that occurs, with the number of its events.
use Rattle.std.specs.Prelude.{◌≡◌, ℕ, zero, suc, ◌+◌, ◌-◌, ◌%◌, ◌==◌, Bool, List, Option, Some, None, count_by, unwrap_or, if◌then◌else◌}
use Rattle.std.specs.Ordering.{nat_cmp}
use Rattle.std.specs.FinMap as fin
use Rattle.probe_tools.specs.declared.event.Event.{Event}
use Rattle.probe_tools.specs.declared.event.Event.TheVariants as events

-- the line of 64 bytes that has the byte at an address, by its first address: the low six bits are cleared
abbrev pub line_of : ℕ → ℕ
line_of addr = addr - addr % 64

-- The key of an access: the line for a load, and one more for a store. So the keys of two lines or kinds differ, and in
-- the order of keys lines rise, each with its loads before its stores.
abbrev pub access_key : ℕ → Bool → ℕ
access_key addr store = line_of addr + (if store then 1 else 0)

-- what an event counts for: a block's address, a call's target, an access's line and kind
abbrev pub key_of : Event → ℕ
key_of (events.Block at) = at
key_of (events.Call at to) = to
key_of (events.Mem at addr size store) = access_key addr store

-- the number, or nothing where it is 0
abbrev pub if_any : ℕ → Option ℕ
if_any zero = None
if_any (suc n) = Some (suc n)

-- how many of the events have this key, or nothing where none has
abbrev pub tally : List Event → ℕ → Option ℕ
tally events key = if_any (count_by (λ event. key_of event == key) events)

-- numbers by key
abbrev pub Counts : Type 0
Counts = fin.FinMap nat_cmp ℕ

-- these are the rows of the events: each key that occurs has one, with the number of its events, and no other has
abbrev pub AreRows : List Event → Counts → Type 0
AreRows events counts = (key : ℕ) → fin.get counts key ≡ tally events key

-- the number of a key, 0 where it has no row
abbrev pub count_at : Counts → ℕ → ℕ
count_at counts key = unwrap_or (fin.get counts key) 0

-- n more events of a key
abbrev pub with_more : ℕ → ℕ → Counts → Counts
with_more key n counts = fin.insert counts key (count_at counts key + n)
