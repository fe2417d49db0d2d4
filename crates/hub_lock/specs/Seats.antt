-- A seat as its holder sees it, and what each call makes of it.
use Rattle.std.specs.Prelude.{◌≡◌, ℕ, ◌+◌, ◌-◌, List, [], ◌∷◌, ◌++◌, length, Option, Some, Bool, true, false}
use Rattle.atomic_table.specs.Seated.{TableId}
use Rattle.hub_lock.specs.Places.{all_parts, mine, StartsWith, IsWithin, longer}
use Rattle.hub_lock.specs.Stages.{is_inside}
use Rattle.hub_lock.specs.Steps.{Pass}

-- its turn, the value's opening, what it has seen of the journal, which places of the journal are its own, its parts, and whether it is inside
pub record SeatState (O E : Type 0) : Type 0 where
  pub turn : TableId
  pub opening : Option O
  pub seen : List E
  pub own : List ℕ
  pub parts : ℕ
  pub inside : Bool

module _ {O E : Type 0} where
  abbrev pub seat_state : {T : Type 0} → TableId → Pass T O E → SeatState O E
  seat_state turn m = record { turn = turn; opening = m.0.opening; seen = m.0.seen; own = m.0.own; parts = m.0.parts; inside = is_inside m.0.stage }

  -- the first seat of a turn
  abbrev pub first_seat : TableId → O → SeatState O E
  first_seat turn o = record { turn = turn; opening = Some o; seen = []; own = []; parts = all_parts; inside = false }

  -- a seat that gave one part away
  abbrev pub one_part_less : SeatState O E → SeatState O E
  one_part_less s = record s { parts = s.parts - 1 }

  -- a new seat with one part, which has seen as much and has no entry of its own
  abbrev pub split_from : SeatState O E → SeatState O E
  split_from s = record s { own = []; parts = 1; inside = false }

  -- the seat inside, which has seen the whole journal
  abbrev pub inside_with : SeatState O E → List E → SeatState O E
  inside_with s journal = record s { seen = journal; inside = true }

  -- the longer of what both have seen, the places of both, and the parts of both
  abbrev pub both : SeatState O E → SeatState O E → SeatState O E
  both s u = record s { seen = longer s.seen u.seen; own = s.own ++ u.own; parts = s.parts + u.parts }

  -- the entries that are the seat's own, in the order of the journal
  abbrev pub own_entries : SeatState O E → List E
  own_entries s = mine s.seen s.own

  -- the seat s, whose call added the entry e behind those before it, is then n
  pub record Adds (s : SeatState O E) (before : List E) (e : E) (n : SeatState O E) : Type 0 where
    pub same : (n.turn ≡ s.turn) × (n.opening ≡ s.opening) × (n.parts ≡ s.parts) × (n.inside ≡ false)
    -- what it has seen begins with all that it had seen, and ends with the entry
    pub later : StartsWith before s.seen
    pub seen : n.seen ≡ before ++ e ∷ []
    -- it has gained just the place of that entry
    pub own : n.own ≡ s.own ++ length before ∷ []
    pub within : IsWithin n.seen n.own
    pub entries : own_entries n ≡ own_entries s ++ e ∷ []

  -- the seat s, whose call added no entry, is then n
  pub record Sees (s n : SeatState O E) : Type 0 where
    pub same : (n.turn ≡ s.turn) × (n.opening ≡ s.opening) × (n.own ≡ s.own) × (n.parts ≡ s.parts) × (n.inside ≡ false)
    -- it may have seen more
    pub later : StartsWith n.seen s.seen
    pub within : IsWithin n.seen n.own
    pub entries : own_entries n ≡ own_entries s

  module _ {T : Type 0} where
    -- what a seat may give back: the journal that was taken, or that with one entry more, which the seat may have as its own
    abbrev pub MayLeave : (T → List E) → (List E → Type 0) → SeatState O E → T → Bool → Type 0
    MayLeave journal rule s x false = journal x ≡ s.seen
    MayLeave journal rule s x true = (e : E) × (journal x ≡ s.seen ++ e ∷ []) × rule (own_entries s ++ e ∷ [])

    -- the seat s gave back the value x, with the journal that was taken or with one entry more, and is then n
    abbrev pub Leaves : (T → List E) → SeatState O E → T → Bool → SeatState O E → Type 0
    Leaves journal s x false n = n ≡ record s { inside = false }
    Leaves journal s x true n = (e : E) × (journal x ≡ s.seen ++ e ∷ []) × Adds s s.seen e n
