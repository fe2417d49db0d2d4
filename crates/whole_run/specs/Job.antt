-- What a whole run is given.
use Rattle.std.specs.Prelude.{◌≡◌, ℕ, List, [], map, slice_get, unwrap_or, IfSome}
use Rattle.manifest.specs.Entries.{GuestEntry, Listing}
use Rattle.plain_machine.specs.Machine.{Guest}
use Rattle.plain_machine.specs.Program.{Program}
use Rattle.unit_set.specs.Slot.{Slot}
use Rattle.slot_list.specs.Recipe.{recipe_of}
use Rattle.slot_list.specs.Slots.{layout_of, slots_of}
use Rattle.block_ledger.specs.Traced.{Scheme}
use Rattle.registry.specs.Registry.{Told}
use Rattle.guest_answers.specs.Plan.{Plan, caller_of}
use Rattle.guest_loop.specs.declared.guest.Ran.{Ran}
use Rattle.guest_loop.specs.Guest.{IsToldBy}

-- a manifest, the programs of its files, and what each of its guests may read
pub record Job : Type 0 where
  pub listing : Listing
  pub programs : List Program
  pub inputs : List (List ℕ)

abbrev pub job_of : Listing → List Program → List (List ℕ) → Job
job_of listing programs inputs = record { listing = listing; programs = programs; inputs = inputs }

-- what its guests share
abbrev pub plan_of : Job → Plan
plan_of j = record { elfs = j.programs; modules = j.listing.modules; layout = layout_of j.listing.guests j.programs }

abbrev pub slots_in_job : Job → List Slot
slots_in_job j = slots_of j.listing.modules j.listing.guests j.programs

abbrev pub rounds_of : Job → List ℕ
rounds_of j = map (λ g. g.round) j.listing.guests

-- what the guest of this number may read
abbrev pub input_of : Job → ℕ → List ℕ
input_of j g = unwrap_or (slice_get j.inputs g) []

-- a guest of the plain machine
abbrev pub guest_for : GuestEntry → List ℕ → Guest
guest_for row input = record { isa = row.isa; program = row.«module»; stack = row.stack; input = input; fuel = row.fuel }

-- how its blocks are made and kept
abbrev pub scheme_in : GuestEntry → Scheme
scheme_in row = record { tool = row.tool; max = row.max; pool = row.pool }

-- what is told of a guest by its row, its number and its own entries
pub record IsToldOf (j : Job) (g : ℕ) (own : List Told) (ran : Ran) (row : GuestEntry) : Type 0 where
  pub name : ran.end.name ≡ row.name
  pub told : IsToldBy (plan_of j) (caller_of (plan_of j) g (recipe_of row)) (guest_for row (input_of j g)) (scheme_in row) own ran

-- the same, by its number
abbrev pub tells : Job → ℕ → List Told → Ran → Type 0
tells j g own ran = IfSome (slice_get j.listing.guests g) (IsToldOf j g own ran)
