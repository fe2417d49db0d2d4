-- How a full pool is answered.
use Rattle.std.specs.Prelude.{◌≡◌, ◌<◌, ◌%◌, ℕ, List, [], ◌∷◌, ◌++◌, None}
use Rattle.std.specs.FinMap as fin
use Rattle.plain_machine.specs.Memory.{IsMemory}
use Rattle.block_ledger.specs.Ledger.{flushed, all_offered, offered}
use Rattle.block_ledger.specs.Requests.{Asking, offer, offers}
use Rattle.block_ledger.specs.Traced.{Scheme}
use Rattle.guest_proc.specs.declared.stop.Stop.{Stop}
use Rattle.guest_proc.specs.declared.stop.Stop.TheVariants as stop
use Rattle.guest_proc.specs.Process.{Process, RanOn, stop_of}
use Rattle.guest_proc.specs.Maps.{put_to}

-- room was made: blocks were offered to the unit of each attached segment, and the private ones went
abbrev pub roomy : Process → Process
roomy p = put_to p p.state (flushed (all_offered (fin.keys p.ledger.segments) p.ledger))

-- what was asked for it
abbrev pub room_made : Process → List Asking
room_made p = offers (fin.keys p.ledger.segments) p.ledger

-- Where a run came to a full pool, what is run once room was made is what it goes on with: the next begin would make it.
abbrev pub RoomGoesOn : Type 0
RoomGoesOn = (scheme : Scheme) (made more : List Asking) (first p new : Process) (s : Stop) → 0 < scheme.pool → IsMemory p.state.memory → p.state.cpu.pc % 4 ≡ 0 →
    RanOn scheme made first p stop.PoolFull → RanOn scheme more (roomy p) new s → RanOn scheme (made ++ (room_made p ++ more)) first new s

-- then no stop comes before the next block
abbrev pub RoomIsThere : Type 0
RoomIsThere = (scheme : Scheme) (made : List Asking) (first p : Process) → 0 < scheme.pool → RanOn scheme made first p stop.PoolFull → stop_of scheme.pool (roomy p) ≡ None

-- ---- one segment after the other

-- Room is being made for p, which is now so: these requests were made for it, and these segments are still to be offered
-- their candidates.
pub record IsOffering (is : List ℕ) (made : List Asking) (p now : Process) : Type 0 where
  pub same : now ≡ put_to p p.state now.ledger
  pub ledger : all_offered is now.ledger ≡ all_offered (fin.keys p.ledger.segments) p.ledger
  pub requests : made ++ offers is now.ledger ≡ room_made p

-- first they are all attached ones
abbrev pub OfferingBegins : Type 0
OfferingBegins = (p : Process) → IsOffering (fin.keys p.ledger.segments) [] p p

-- the next one is offered them
abbrev pub OneMoreOffered : Type 0
OneMoreOffered = (i : ℕ) (is : List ℕ) (made : List Asking) (p now : Process) → IsOffering (i ∷ is) made p now → IsOffering is (made ++ offer i now.ledger) p (put_to now now.state (offered i now.ledger))

-- with the flush room was made, and this is what was asked for it
pub record IsOffered (made : List Asking) (p now : Process) : Type 0 where
  pub becomes : put_to now now.state (flushed now.ledger) ≡ roomy p
  pub requests : made ≡ room_made p

abbrev pub AllAreOffered : Type 0
AllAreOffered = (made : List Asking) (p now : Process) → IsOffering [] made p now → IsOffered made p now
