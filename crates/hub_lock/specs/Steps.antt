-- What each step on the table makes of a seat, and what it tells.
use Rattle.std.specs.Prelude.{◌≡◌, ◌≢◌, ℕ, ◌+◌, ◌-◌, ◌<◌, ◌≤◌, List, [], ◌∷◌, ◌++◌, length, Option, Some, None, IsSome, Bool, true, false}
use Rattle.atomic_table.specs.Table.{Me, Step, rest}
use Rattle.hub_lock.specs.Places.{all_parts, times, mine, others, StartsWith, IsWithin, longer, shorter}
use Rattle.hub_lock.specs.Stages.{ticket_of, has_turn}
use Rattle.hub_lock.specs.declared.view.View.{View}
use Rattle.hub_lock.specs.declared.view.Stage.{Stage}
use Rattle.hub_lock.specs.declared.view.Stage.TheVariants.{Outside, Waits, Inside, Added}

-- a seat of the table: what it knows, and the slots that it holds with their values
abbrev pub Pass : Type 0 → Type 0 → Type 0 → Type 0
Pass T O E = Me (Option T) (View O E)

-- between two calls a seat is outside and holds nothing, or it is inside and holds slot 0, whose value its caller has
abbrev pub IsSettled : {T : Type 0} → Stage → List (ℕ × Option T) → Type 0
IsSettled Outside held = held ≡ []
IsSettled (Waits n) held = ⊥
IsSettled (Inside n) held = held ≡ (0, None) ∷ []
IsSettled (Added n) held = ⊥

module _ {O E : Type 0} where
  -- the view with these fields
  abbrev pub view : Option O → List E → List ℕ → ℕ → Stage → List E → View O E
  view o seen own parts stage told = record { opening = o; seen = seen; own = own; parts = parts; stage = stage; told = told }

  -- the same view at another stage
  abbrev pub staged : View O E → Stage → View O E
  staged v stage = view v.opening v.seen v.own v.parts stage v.told

  -- make: the first seat of a new turn
  abbrev pub beginner : O → View O E
  beginner o = view (Some o) [] [] all_parts Outside []

  -- split: the old seat has one part less, and the new one has it, with what was seen
  abbrev pub left_with : View O E → View O E
  left_with v = view v.opening v.seen v.own (v.parts - 1) v.stage v.told

  abbrev pub parted : View O E → View O E
  parted v = view v.opening v.seen [] 1 Outside []

  -- join: one seat has what both had, and is told the shorter of what the two had seen. The other is spent
  abbrev pub joined : View O E → View O E → View O E
  joined v w = view v.opening (longer v.seen w.seen) (v.own ++ w.own) (v.parts + w.parts) v.stage (shorter v.seen w.seen)

  abbrev pub spent : View O E
  spent = view None [] [] 0 Outside []

  -- commit: where an entry was added, its place, which is behind all that the seat had seen, is now the seat's own
  abbrev pub own_after : View O E → Bool → List ℕ
  own_after v false = v.own
  own_after v true = v.own ++ length v.seen ∷ []

  module _ {T : Type 0} where
    -- draw: the ticket that was found is the seat's, where it was still the next one
    abbrev pub drew : Step (Option T) → Pass T O E → ℕ → Pass T O E → Type 0
    drew st m found n = (found ≡ st.first → n ≡ (staged m.0 (Waits found), m.1)) × (found ≢ st.first → n ≡ m)

    -- the seat has the turn, by its ticket t, and slot 0 with the value
    abbrev pub Took : (T → O) → (T → List E) → (List E → Type 0) → Pass T O E → ℕ → Pass T O E → Type 0
    Took opens journal rule m t n =
        (x : T) × (n ≡ (view m.0.opening (journal x) m.0.own m.0.parts (Inside t) m.0.told, (0, Some x) ∷ m.1))
        × (m.0.opening ≡ Some (opens x)) × StartsWith (journal x) m.0.seen × rule (others (journal x) m.0.own) × rule (mine (journal x) m.0.own)

    -- look: where the served ticket is the seat's, the seat has the turn
    abbrev pub looked : (T → O) → (T → List E) → (List E → Type 0) → Step (Option T) → Pass T O E → ℕ → Pass T O E → Type 0
    looked opens journal rule st m found n = (found ≡ ticket_of m.0.stage → Took opens journal rule m found n) × (found ≢ ticket_of m.0.stage → n ≡ m)

    -- commit: the last entry of the value that is held becomes the seat's own
    abbrev pub committed : (T → List E) → Step (Option T) → Pass T O E → ℕ → Pass T O E → Type 0
    committed journal st m found n = (x : T) → m.1 ≡ (0, Some x) ∷ []
        → n ≡ (view m.0.opening (journal x) (m.0.own ++ length m.0.seen ∷ []) m.0.parts (Added (ticket_of m.0.stage)) m.0.told, m.1)

    -- commit: the seat has the turn, has seen the journal of the value x, and has the place of its new entry where one was added
    abbrev pub HasCommitted : (T → List E) → Pass T O E → T → Bool → Pass T O E → Type 0
    HasCommitted journal m x added n = (has_turn n.0.stage ≡ 1) × (n ≡ (view m.0.opening (journal x) (own_after m.0 added) m.0.parts n.0.stage m.0.told, m.1))

    -- pass on: the seat is outside, and has given back the slot
    abbrev pub passed : Step (Option T) → Pass T O E → ℕ → Pass T O E → Type 0
    passed st m found n = n ≡ (staged m.0 Outside, rest m.1)

    -- a load after a join, which changes nothing. It tells that what the seat has seen begins with what it was told, and that it has no place twice
    abbrev pub checked : Step (Option T) → Pass T O E → ℕ → Pass T O E → Type 0
    checked st m found n = (n ≡ m) × (length m.0.told ≤ length m.0.seen → StartsWith m.0.seen m.0.told) × ((p : ℕ) → times p m.0.own ≤ 1)

    -- what is true of each seat between two calls: it has the value's opening and a part, and has seen what is its own
    pub record IsSound (m : Pass T O E) : Type 0 where
      pub opened : IsSome m.0.opening
      pub part : 0 < m.0.parts
      pub settled : IsSettled m.0.stage m.1
      pub within : IsWithin m.0.seen m.0.own

    abbrev pub IsOutside : Pass T O E → Type 0
    IsOutside m = (m.0.stage ≡ Outside) × (m.1 ≡ []) × (0 < m.0.parts)

    -- what may be committed: nothing where the journal is the one taken, and else its one new entry, which the seat may have as its own
    abbrev pub MayCommit : (T → List E) → (List E → Type 0) → View O E → T → Bool → Type 0
    MayCommit journal rule v x false = journal x ≡ v.seen
    MayCommit journal rule v x true = (e : E) × (journal x ≡ v.seen ++ e ∷ []) × rule (mine v.seen v.own ++ e ∷ [])
