-- Guests that run one after the other, in rounds.
use Rattle.std.specs.Prelude.{◌≡◌, ℕ, ◌<◌, ◌≤◌, List, [], ◌∷◌, length, slice_get, unwrap_or, IfSome, Option, Some, None}
use Rattle.std.specs.List.{AllByRecursion}
use Rattle.registry.specs.declared.entry.Entry.{Entry}
use Rattle.registry.specs.Opening.{Opening}
use Rattle.registry.specs.State.{State}
use Rattle.registry.specs.Registry.{Told, generation_of, opened, told_all, AreReplied}
use Rattle.registry.specs.History.{History}
use Rattle.registry.specs.Laws.{AreLetGo}
use Rattle.guest_rounds.specs.Calls.{guest_of, own, AreBy, AreOfGuests}

-- ---- the order

abbrev pub last_round : ℕ
last_round = 15

abbrev pub round_of : List ℕ → ℕ → ℕ
round_of rounds g = unwrap_or (slice_get rounds g) 0

-- guest h comes before number g of a round: it is of an earlier round, or of this one, and its number is less
pub record IsPast (rounds : List ℕ) (round g h : ℕ) : Type 0 where
  pub early : round_of rounds h ≤ round
  pub before : round ≤ round_of rounds h → h < g

-- guest h comes before guest g
abbrev pub ComesBefore : List ℕ → ℕ → ℕ → Type 0
ComesBefore rounds h g = IsPast rounds (round_of rounds g) g h

-- an entry of the one may stand before an entry of the other, which doesn't come before it
abbrev pub MayPrecede : List ℕ → Option ℕ → Option ℕ → Type 0
MayPrecede rounds x y = (g h : ℕ) → x ≡ Some g → y ≡ Some h → ComesBefore rounds h g → ⊥

-- no entry of a guest stands before an entry of one that comes before it
abbrev pub AreInOrder : List ℕ → List Entry → Type 0
AreInOrder rounds [] = Unit {0}
AreInOrder rounds (e ∷ es) = AllByRecursion (λ f. MayPrecede rounds (guest_of e) (guest_of f)) es × AreInOrder rounds es

-- ---- what is let go

-- no guest holds a generation
abbrev pub AreFree : State → Type 0
AreFree s = (slot age : ℕ) → (generation_of s slot age).attached ≡ 0

-- ---- what is told

-- for each guest the answer of its number, of which this holds with the guest's own entries
abbrev pub AreTold : {R : Type 0} → (ℕ → List Told → R → Type 0) → List Told → List R → Type 0
AreTold tells told answers = (g : ℕ) → IfSome (slice_get answers g) (tells g (own g told))

-- the answer is there, and this holds of it
abbrev pub IsThere : {R : Type 0} → (R → Type 0) → Option (Option R) → Type 0
IsThere P None = ⊥
IsThere P (Some None) = ⊥
IsThere P (Some (Some answer)) = P answer

-- ---- a run so far

-- one of the guests that come before number g of a round
pub record HasRun (rounds : List ℕ) (round g h : ℕ) : Type 0 where
  pub there : h < length rounds
  pub past : IsPast rounds round g h

-- the guests with P ran over a registry with this opening, and nobody else made an entry
pub record HaveRun {R : Type 0} (tells : ℕ → List Told → R → Type 0) (rounds : List ℕ) (P : ℕ → Type 0) (o : Opening) (h : History) (answers : List (Option R)) : Type 0 where
  pub same : h.opening ≡ o
  pub replied : AreReplied o (opened o) h.journal
  pub by : AreBy P h.journal
  pub in_order : AreInOrder rounds h.journal
  pub let_go : AreLetGo h.journal
  pub places : length answers ≡ length rounds
  pub told : (g : ℕ) → P g → IsThere (tells g (own g (told_all o (opened o) h.journal))) (slice_get answers g)

-- whatever became of them, the guests alone made entries, in order, each the one that its call made
pub record AreCalls (rounds : List ℕ) (o : Opening) (h : History) : Type 0 where
  pub same : h.opening ≡ o
  pub replied : AreReplied o (opened o) h.journal
  pub of_guests : AreOfGuests (length rounds) h.journal
  pub in_order : AreInOrder rounds h.journal
