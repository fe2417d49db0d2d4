-- The rule of a turn's table: it holds between any two steps, whoever makes them.
-- Word 0 is the length of the journal, word 1 the next ticket, word 2 the ticket that is served. Slot 0 holds the value, or nothing.
use Rattle.std.specs.Prelude.{◌≡◌, ◌⊎◌, ℕ, ◌+◌, ◌<◌, ◌≤◌, List, [], length, slice_index, Option, Some, None}
use mathlib.Core.Option.{some, none}
use mathlib.Core.Option as maybe
use lib.ListN.{get_elem?}
use Rattle.atomic_table.specs.Table.{State}
use Rattle.hub_lock.specs.Places.{all_parts, total, times, between, mine, StartsWith, IsWithin}
use Rattle.hub_lock.specs.Stages.{has_ticket, has_turn, has_added, Serves}
use Rattle.hub_lock.specs.declared.view.View.{View}
use Rattle.hub_lock.specs.declared.view.Stage.TheVariants.{Outside}

-- slot 0 is out with a seat
abbrev pub IsOut : {T : Type 0} → List (maybe.Option (Option T)) → Type 0
IsOut homes = get_elem? homes 0 ≡ some none

module _ {O E : Type 0} where
  -- how many of the seats have the ticket t
  abbrev pub ticket_count : ℕ → List (View O E) → ℕ
  ticket_count t views = total (λ v. has_ticket t v.stage) views

  -- how many of the seats have the turn
  abbrev pub turn_count : List (View O E) → ℕ
  turn_count views = total (λ v. has_turn v.stage) views

  -- how many of the seats have committed in this turn
  abbrev pub added_count : List (View O E) → ℕ
  added_count views = total (λ v. has_added v.stage) views

  -- how often the place p is a seat's own
  abbrev pub own_count : ℕ → List (View O E) → ℕ
  own_count p views = total (λ v. times p v.own) views

  -- the parts of all seats together
  abbrev pub part_count : List (View O E) → ℕ
  part_count views = total (λ v. v.parts) views

  -- a seat that was joined: it has no opening, no own place, no part and no ticket
  pub record IsSpent (v : View O E) : Type 0 where
    pub no_opening : v.opening ≡ None
    pub no_place : v.own ≡ []
    pub no_part : v.parts ≡ 0
    pub no_ticket : v.stage ≡ Outside

  -- any other seat: it has the opening that all have, and at least one part
  pub record IsUnspent (o : O) (v : View O E) : Type 0 where
    pub opening : v.opening ≡ Some o
    pub part : 0 < v.parts

  -- what the rule says of one seat
  pub record Fits (rule : List E → Type 0) (o : O) (log : List E) (serving : ℕ) (v : View O E) : Type 0 where
    pub kind : IsSpent v ⊎ IsUnspent o v
    -- what it has seen is a beginning of the journal
    pub seen : StartsWith log v.seen
    -- it has seen each entry that is its own
    pub own : IsWithin v.seen v.own
    -- where it has the turn, its ticket was found served and still is, and it has seen the whole journal
    pub serves : Serves log serving v.seen v.stage
    -- its own entries meet the rule that the value states
    pub ruled : rule (mine log v.own)
    -- after a join, the shorter of what the two had seen is a beginning of the journal
    pub told : StartsWith log v.told

  -- some seat has seen the whole journal
  abbrev pub IsSeen : List E → List (View O E) → Type 0
  IsSeen log views = (j : ℕ) × (v : View O E) × (get_elem? views j ≡ some v) × (v.seen ≡ log)

  module _ {T : Type 0} where
    -- slot 0 is at home. It holds the value, which has the opening of all seats, and its journal is the longest that was seen
    abbrev pub IsHome : (T → O) → (T → List E) → O → List E → List (maybe.Option (Option T)) → Type 0
    IsHome opens journal o log homes = (x : T) × (get_elem? homes 0 ≡ some (some (Some x))) × (opens x ≡ o) × (journal x ≡ log)

    -- the rule, over the journal, the three words, the slot and the views of all seats
    pub record Keeps (opens : T → O) (journal : T → List E) (rule : List E → Type 0) (o : O) (log : List E) (count next serving : ℕ) (homes : List (maybe.Option (Option T))) (views : List (View O E)) : Type 0 where
      -- word 0 is the length of the journal, which is the longest list that a seat has seen
      pub counted : count ≡ length log
      pub longest : IsSeen log views
      -- the tickets that are out are those from the served one up to the next one, which is not out, and no two seats have the same
      pub tickets : (t : ℕ) → ticket_count t views ≡ between t serving next
      -- no word passes the greatest u64, since a draw that finds it never succeeds
      pub small : (serving ≤ next) × (next < 18446744073709551616)
      -- at most one seat has the turn. Slot 0 is out exactly where one has it
      pub one_turn : turn_count views ≤ 1
      pub home : turn_count views ≡ 0 → IsHome opens journal o log homes
      pub out : turn_count views ≡ 1 → IsOut homes
      -- word 0 is at most the served ticket, and at most one more while a seat has committed and has not passed on
      pub behind : count ≤ serving + added_count views
      pub one_added : added_count views ≤ 1
      -- each place below word 0 is one seat's own, once, and no other place is
      pub owned : (p : ℕ) → own_count p views ≡ between p 0 (length log)
      -- so a seat with all parts is the only one left
      pub parts : part_count views ≡ all_parts
      pub each_seat : (j : ℕ) (v : View O E) → get_elem? views j ≡ some v → Fits rule o log serving v

    -- the rule of the table
    pub record Orderly (opens : T → O) (journal : T → List E) (rule : List E → Type 0) (o : O) (s : State (Option T) (View O E)) : Type 0 where
      pub log : List E
      pub wide : length s.words ≡ 3
      pub tall : length s.homes ≡ 1
      pub kept : Keeps opens journal rule o log (slice_index s.words 0) (slice_index s.words 1) (slice_index s.words 2) s.homes s.views
