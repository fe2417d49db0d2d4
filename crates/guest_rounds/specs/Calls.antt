-- Whose an entry is, and what a guest does to a registry that it is lent.
use Rattle.std.specs.Prelude.{◌≡◌, ℕ, ◌<◌, ◌==◌, Bool, false, List, ◌++◌, Option, Some, None}
use Rattle.std.specs.List.{AllByRecursion, filter}
use Rattle.registry.specs.declared.entry.Entry.{Entry}
use Rattle.registry.specs.declared.entry.Entry.TheVariants.{Map, Replace, Attach, Merge, Detach, Due, Acked, Failed, Finish}
use Rattle.registry.specs.Registry.{Told, told_all, AreReplied}
use Rattle.registry.specs.History.{History, state_of}
use Rattle.registry.specs.Laws.{AreLetGo}

-- ---- whose an entry is

-- the guest that made it; the publisher's and the host's are no guest's
abbrev pub guest_of : Entry → Option ℕ
guest_of (Map guest k file) = Some guest
guest_of (Replace guest k file reply) = Some guest
guest_of (Attach guest slot file age version) = Some guest
guest_of (Merge guest slot age addrs reply) = Some guest
guest_of (Detach guest slot age) = Some guest
guest_of (Due slot age version) = None
guest_of (Acked slot age version) = None
guest_of (Failed slot) = None
guest_of Finish = None

abbrev pub is_guest : ℕ → Option ℕ → Bool
is_guest g None = false
is_guest g (Some h) = h == g

-- the entries of a guest, in order, each with what it was handed at its place
abbrev pub own : ℕ → List Told → List Told
own g ts = filter (λ t. is_guest g (guest_of t.entry)) ts

-- all of them are this guest's
abbrev pub AreOf : ℕ → List Entry → Type 0
AreOf g es = AllByRecursion (λ e. guest_of e ≡ Some g) es

abbrev pub IsBy : (ℕ → Type 0) → Option ℕ → Type 0
IsBy P None = ⊥
IsBy P (Some g) = P g

-- each is a guest's of which this holds
abbrev pub AreBy : (ℕ → Type 0) → List Entry → Type 0
AreBy P es = AllByRecursion (λ e. IsBy P (guest_of e)) es

-- each is of one of the first n guests
abbrev pub AreOfGuests : ℕ → List Entry → Type 0
AreOfGuests n es = AreBy (λ g. g < n) es

-- ---- a guest that is lent a registry

-- it made these entries, each the one that its call made at its place
pub record Calls (g : ℕ) (old new : History) (more : List Entry) : Type 0 where
  pub journal : new ≡ record old { journal = old.journal ++ more }
  pub mine : AreOf g more
  pub replied : AreReplied old.opening (state_of old) more

-- it made some entries
pub record CallsSome (g : ℕ) (old new : History) : Type 0 where
  pub more : List Entry
  pub calls : Calls g old new more

-- moreover it let go what it attached, and this holds of what it was told
pub record Visits (g : ℕ) (old new : History) (Tells : List Told → Type 0) : Type 0 where
  pub more : List Entry
  pub calls : Calls g old new more
  pub let_go : AreLetGo more
  pub told : Tells (told_all old.opening (state_of old) more)
