-- Where a seat stands with its ticket.
use Rattle.std.specs.Prelude.{◌≡◌, ℕ, List, Bool, true, false}
use Rattle.hub_lock.specs.Places.{only}
use Rattle.hub_lock.specs.declared.view.Stage.{Stage}
use Rattle.hub_lock.specs.declared.view.Stage.TheVariants.{Outside, Waits, Inside, Added}

-- 1 where the seat has the ticket t, and else 0
abbrev pub has_ticket : ℕ → Stage → ℕ
has_ticket t Outside = 0
has_ticket t (Waits n) = only t n
has_ticket t (Inside n) = only t n
has_ticket t (Added n) = only t n

-- 1 where the seat has the turn, so that slot 0 is out with it, and else 0
abbrev pub has_turn : Stage → ℕ
has_turn Outside = 0
has_turn (Waits n) = 0
has_turn (Inside n) = 1
has_turn (Added n) = 1

-- 1 where the seat has committed in this turn, and else 0
abbrev pub has_added : Stage → ℕ
has_added Outside = 0
has_added (Waits n) = 0
has_added (Inside n) = 0
has_added (Added n) = 1

-- the seat's ticket, and 0 where it has none
abbrev pub ticket_of : Stage → ℕ
ticket_of Outside = 0
ticket_of (Waits n) = n
ticket_of (Inside n) = n
ticket_of (Added n) = n

-- a seat that has a ticket is inside
abbrev pub is_inside : Stage → Bool
is_inside Outside = false
is_inside (Waits n) = true
is_inside (Inside n) = true
is_inside (Added n) = true

-- a seat that has the turn has the ticket that is served, and has seen the whole journal
abbrev pub Serves : {E : Type 0} → List E → ℕ → List E → Stage → Type 0
Serves log serving seen Outside = Unit {0}
Serves log serving seen (Waits n) = Unit {0}
Serves log serving seen (Inside n) = (n ≡ serving) × (seen ≡ log)
Serves log serving seen (Added n) = (n ≡ serving) × (seen ≡ log)
