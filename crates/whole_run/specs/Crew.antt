-- The guests of a run, as they are handed in, and what they leave of a registry.
use Rattle.std.specs.Prelude.{◌≡◌, ℕ, ◌<◌, List, length, slice_get, IfSome}
use Rattle.manifest.specs.Entries.{GuestEntry, Listing}
use Rattle.slot_list.specs.Recipe.{recipe_of}
use Rattle.registry.specs.Opening.{Opening}
use Rattle.registry.specs.Registry.{opened, told_all}
use Rattle.registry.specs.History.{History, state_of}
use Rattle.guest_rounds.specs.Rounds.{AreCalls, AreFree, AreTold}
use Rattle.guest_answers.specs.Plan.{Fits, caller_of}
use Rattle.guest_loop.specs.declared.guest.Ran.{Ran}
use Rattle.guest_loop.specs.declared.guest.Work.{Work}
use Rattle.whole_run.specs.Job.{Job, plan_of, rounds_of, tells}

-- it is handed in with this number, and with what its row says
pub record IsWork (guest : ℕ) (input : List ℕ) (work : Work) (row : GuestEntry) : Type 0 where
  pub number : work.guest ≡ guest
  pub name : work.name ≡ row.name
  pub program : work.«module» ≡ row.«module»
  pub isa : work.setup.isa ≡ row.isa
  pub tool : work.setup.tool ≡ row.tool
  pub max : work.setup.max ≡ row.max
  pub fuel : work.setup.fuel ≡ row.fuel
  pub pool : work.setup.pool ≡ row.pool
  pub stack : work.setup.stack ≡ row.stack
  pub reads : work.setup.input ≡ input

-- the guest of this number is handed in so
abbrev pub IsWorkOf : Listing → ℕ → List ℕ → Work → Type 0
IsWorkOf l guest input work = IfSome (slice_get l.guests guest) (IsWork guest input work)

-- it is a guest, and the registry has slots for it
pub record MayRun (j : Job) (o : Opening) (g : ℕ) : Type 0 where
  pub there : g < length j.listing.guests
  pub fits : IfSome (slice_get j.listing.guests g) (λ row. Fits (plan_of j) (caller_of (plan_of j) g (recipe_of row)) o)

-- All guests ran: they alone made entries, in rounds, each is told by its own, and all that they attached is let go.
pub record HaveRun (j : Job) (old new : History) (rans : List Ran) : Type 0 where
  pub calls : AreCalls (rounds_of j) old.opening new
  pub one_each : length rans ≡ length j.listing.guests
  pub told : AreTold (tells j) (told_all old.opening (opened old.opening) new.journal) rans
  -- no guest holds a unit
  pub free : AreFree (state_of new)
