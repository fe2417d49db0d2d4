-- The whole run of a guest by a process.
use Rattle.std.specs.Prelude.{◌≡◌, ℕ, List, [], ◌∷◌, ◌++◌, length, slice_get, Some}
use Rattle.std.specs.FinMap as fin
use Rattle.cc_base.specs.Image.{Code}
use Rattle.plain_machine.specs.declared.ends.End.{End}
use Rattle.plain_machine.specs.Program.{Program}
use Rattle.plain_machine.specs.Machine.{Setting, Guest, base_at, file_at, start}
use Rattle.probe_tools.specs.Rows.{AreRows}
use Rattle.plain_machine.specs.Own.{AreOwn}
use Rattle.plain_machine.specs.Plain.{run_events}
use Rattle.plain_machine.specs.Run.{IsComplete, plain}
use Rattle.block_ledger.specs.Ledger.{new_ledger, offered}
use Rattle.block_ledger.specs.Requests.{Asking, AsksFile, asked_at, parting, partings, unit_asks}
use Rattle.block_ledger.specs.Traced.{Scheme, all_attached, closed, codes_of, run_trace}
use Rattle.guest_proc.specs.declared.stop.Stop.TheVariants as stop
use Rattle.guest_proc.specs.Maps.{put_to}
use Rattle.guest_proc.specs.Process.{Process, Comes}
use Rattle.map_laws.specs.Came.{Goes}
use Rattle.map_laws.specs.Own.{answers_to}

-- A guest's first state, in which its program is file f; its program's segments are attached with these units.
pub record IsFirst (w : Setting) (scheme : Scheme) (g : Guest) (f : ℕ) (units : List (List ℕ)) (first : Process) : Type 0 where
  pub base : ℕ
  pub program : Program
  pub stands : base_at w g.program ≡ Some base
  pub known : file_at w f ≡ Some program
  pub starts : start g f base program ≡ Some first.state
  pub fuel : first.fuel ≡ g.fuel
  pub empty : first.report.counts ≡ fin.empty
  pub size : length units ≡ length (codes_of program base)
  pub ledger : first.ledger ≡ all_attached scheme g.isa g.program 0 (codes_of program base) units new_ledger

-- what was asked before it: the file of module k, which is f, and the units of these segments
abbrev pub first_asks : ℕ → ℕ → List Code → List Asking
first_asks k f codes = asked_at 0 (AsksFile k) ∷ unit_asks k f 0 codes 0

-- The guest's plain run with these map answers is complete and ends so, wrote what the process did, and is counted so; the
-- process has its ledger; and these requests were made up to its end.
pub record IsRunBy (w : Setting) (scheme : Scheme) (g : Guest) (maps : List ℕ) (units : List (List ℕ)) (requests : List Asking) (end : End) (new : Process) : Type 0 where
  pub complete : IsComplete (plain w g maps) end
  pub wrote : (plain w g maps).output ≡ new.state.io.output
  pub rows : AreRows (run_events scheme.tool scheme.max (plain w g maps)) new.report.counts
  pub ledger : (run_trace w scheme g maps units).ledger ≡ new.ledger
  pub asked : (run_trace w scheme g maps units).requests ≡ requests

-- A run from the first state to an end is the guest's whole run.
abbrev pub EndIsWhole : Type 0
EndIsWhole = (w : Setting) (scheme : Scheme) (g : Guest) (f : ℕ) (maps : List ℕ) (before units : List (List ℕ)) (requests made : List Asking) (first mid new : Process) (end : End) →
    (s : IsFirst w scheme g f before first) → Goes w scheme maps units requests first mid → Comes scheme made mid new (stop.Ended end) →
    IsRunBy w scheme g (f ∷ maps) (before ++ units) (first_asks g.program f (codes_of s.program s.base) ++ (requests ++ made)) end new

-- Where its requests take the map answers, in a guest that is alone, these are its own.
abbrev pub EndIsOwn : Type 0
EndIsOwn = (w : Setting) (scheme : Scheme) (g : Guest) (files : List ℕ) (f : ℕ) (maps : List ℕ) (before units : List (List ℕ)) (requests made : List Asking) (first mid new : Process) (end : End) →
    IsFirst w scheme g f before first → slice_get files g.program ≡ Some f → Goes w scheme maps units requests first mid → Comes scheme made mid new (stop.Ended end) → maps ≡ answers_to w files (requests ++ made) →
    AreOwn w g files (f ∷ maps)

-- ---- behind the end, one segment after the other

-- At the end of this run these requests were made, and these segments are still to be let go.
abbrev pub Closes : Setting → Scheme → Guest → List ℕ → List (List ℕ) → List ℕ → List Asking → Process → Type 0
Closes w scheme g maps units is requests new = (closed (run_trace w scheme g maps units)).requests ≡ requests ++ partings is new.ledger

-- first they are all attached ones
abbrev pub ClosingBegins : Type 0
ClosingBegins = (w : Setting) (scheme : Scheme) (g : Guest) (maps : List ℕ) (units : List (List ℕ)) (requests : List Asking) (end : End) (new : Process) →
    IsRunBy w scheme g maps units requests end new → Closes w scheme g maps units (fin.keys new.ledger.segments) requests new

-- the next one is offered its candidates, and is let go
abbrev pub OneMoreLetGo : Type 0
OneMoreLetGo = (w : Setting) (scheme : Scheme) (g : Guest) (maps : List ℕ) (units : List (List ℕ)) (i : ℕ) (is : List ℕ) (requests : List Asking) (new : Process) →
    Closes w scheme g maps units (i ∷ is) requests new → Closes w scheme g maps units is (requests ++ parting i new.ledger) (put_to new new.state (offered i new.ledger))

-- then these are all that the guest asks
abbrev pub AllAreLetGo : Type 0
AllAreLetGo = (w : Setting) (scheme : Scheme) (g : Guest) (maps : List ℕ) (units : List (List ℕ)) (requests : List Asking) (new : Process) →
    Closes w scheme g maps units [] requests new → (closed (run_trace w scheme g maps units)).requests ≡ requests
