-- What a stage says of a seat.
use Rattle.std.proofs.Common.{◌≡◌, ℕ, ◌≤◌, List, [], ◌∷◌, ap, arith, le_refl, refl, sym, true, false, true≢false, None}
use Rattle.std.specs.Prelude.{Option}
use Rattle.hub_lock.specs.Places.{only}
use Rattle.hub_lock.specs.Stages.{has_ticket, has_turn, has_added, ticket_of, is_inside, Serves}
use Rattle.hub_lock.specs.Steps.{IsSettled}
use Rattle.hub_lock.specs.declared.view.Stage.{Stage}
use Rattle.hub_lock.specs.declared.view.Stage.TheVariants.{Outside, Waits, Inside, Added}
use Rattle.hub_lock.proofs.Sums.{only-same}

-- 1 where the seat waits with its ticket, and else 0
abbrev pub waits : Stage → ℕ
waits Outside = 0
waits (Waits n) = 1
waits (Inside n) = 0
waits (Added n) = 0

-- only a seat that has the turn has added
pub added_le_turn : (st : Stage) → has_added st ≤ has_turn st
added_le_turn Outside = le_refl 0
added_le_turn (Waits n) = le_refl 0
added_le_turn (Inside n) = omega arith
added_le_turn (Added n) = le_refl 1

module _ {E : Type 0} (log : List E) (serving : ℕ) (seen : List E) where
  -- only a seat with the served ticket has the turn
  pub turn_le_ticket : (st : Stage) → Serves log serving seen st → has_turn st ≤ has_ticket serving st
  turn_le_ticket Outside h = le_refl 0
  turn_le_ticket (Waits n) h = omega arith
  turn_le_ticket (Inside n) h = omega (arith, only-same serving n h.0)
  turn_le_ticket (Added n) h = omega (arith, only-same serving n h.0)

  -- a seat that has not the turn
  pub serves_none : (st : Stage) → has_turn st ≡ 0 → Serves log serving seen st
  serves_none Outside h = tt
  serves_none (Waits n) h = tt
  serves_none (Inside n) h = absurd (omega arith)
  serves_none (Added n) h = absurd (omega arith)

  -- a seat that has it
  pub serves_one : (st : Stage) → Serves log serving seen st → has_turn st ≡ 1 → (seen ≡ log) × ((t : ℕ) → has_ticket t st ≡ only t serving)
  serves_one Outside h one = absurd (omega arith)
  serves_one (Waits n) h one = absurd (omega arith)
  serves_one (Inside n) h one = (h.1, λ t. ap (only t) h.0)
  serves_one (Added n) h one = (h.1, λ t. ap (only t) h.0)

module _ {T : Type 0} where
  -- a seat between two calls is outside, or inside with its ticket
  pub settled_out : (st : Stage) (held : List (ℕ × Option T)) → IsSettled st held → is_inside st ≡ false → (st ≡ Outside) × (held ≡ [])
  settled_out Outside held h e = (refl, h)
  settled_out (Waits n) held h e = absurd h
  settled_out (Inside n) held h e = absurd (true≢false e)
  settled_out (Added n) held h e = absurd h

  pub settled_in : (st : Stage) (held : List (ℕ × Option T)) → IsSettled st held → is_inside st ≡ true → (st ≡ Inside (ticket_of st)) × (held ≡ (0, None) ∷ [])
  settled_in Outside held h e = absurd (true≢false (sym e))
  settled_in (Waits n) held h e = absurd h
  settled_in (Inside n) held h e = (refl, h)
  settled_in (Added n) held h e = absurd h
