-- A process that was run and answered, in one setting.
use Rattle.std.specs.Prelude.{◌≡◌, ℕ, Bool, List, ◌++◌, drop, length}
use Rattle.cc_base.specs.Image.{Code}
use Rattle.rv_decode.specs.declared.ins.Isa.{Isa}
use Rattle.plain_machine.specs.declared.io.Asked.{Asked}
use Rattle.plain_machine.specs.Program.{Program}
use Rattle.plain_machine.specs.Machine.{State, Action, Setting, after_unmap, with_result}
use Rattle.plain_machine.specs.Run.{run}
use Rattle.plain_machine.specs.Cut.{Marked, marked, with_marks}
use Rattle.plain_machine.specs.Events.{events}
use Rattle.engine.specs.Seeing.{with_events}
use Rattle.block_ledger.specs.Ledger.{all_offered, unmapped}
use Rattle.block_ledger.specs.Requests.{Asking, partings, unit_asks}
use Rattle.block_ledger.specs.Traced.{Scheme, Trace, traced, all_attached, after_call, codes_of}
use Rattle.guest_proc.specs.Process.{Process, answered, onward, trace}

-- In the setting w a run from old took these map answers and these units, made these requests, and has these states up to
-- new. Their events were counted; and the ledger of new is the one that they lead to, but for this change, which is still
-- to be done. Behind them this is told.
pub record Came (w : Setting) (scheme : Scheme) (maps : List ℕ) (units : List (List ℕ)) (requests : List Asking) (old new : Process) (change : Trace → Trace) (behind : List ℕ → Marked) : Type 0 where
  pub marks : List (State × Bool)
  pub seen : (more : List ℕ) → marked scheme.max (run w old.fuel (maps ++ more) old.state) ≡ with_marks marks (behind more)
  pub counted : new.report ≡ with_events (events scheme.tool marks) old.report
  pub ledger : (more : List ℕ) (rest : List (List ℕ)) (before : List Asking) →
      traced w scheme marks (trace old.ledger (maps ++ more) (units ++ rest) before) ≡ change (trace new.ledger more rest (before ++ requests))

abbrev pub done : Trace → Trace
done t = t

-- it goes on from new
abbrev pub Goes : Setting → Scheme → List ℕ → List (List ℕ) → List Asking → Process → Process → Type 0
Goes w scheme maps units requests old new = Came w scheme maps units requests old new done (onward scheme.max new w)

-- it stopped at this map call, whose answer is still to be put into new
abbrev pub Waits : Setting → Scheme → List ℕ → List (List ℕ) → List Asking → Process → Process → Asked → Action → Type 0
Waits w scheme maps units requests old new a action =
    Came w scheme maps units requests old new (after_call w scheme (a, new.state.cpu, new.state.memory, new.state.io)) (answered scheme.max new action w)

-- ---- a module comes

-- these segments of module k, which is file f, are attached from number seg on, each with the next unit, which is asked for
abbrev pub attached_from : Scheme → Isa → ℕ → ℕ → ℕ → List Code → Trace → Trace
attached_from scheme isa k f seg codes t = record t {
  ledger = all_attached scheme isa k seg codes t.units t.ledger;
  units = drop (length codes) t.units;
  requests = t.requests ++ unit_asks k f seg codes t.ledger.counts.blocks;
}

-- the run from new, where its call is answered by 0
abbrev pub answered_well : Setting → ℕ → Process → List ℕ → Marked
answered_well w max new more = marked max (run w new.fuel more (with_result new.state 0))

-- Module k was placed from file f: these segments are still to be attached, and the result 0 to be put.
abbrev pub Attaches : Setting → Scheme → ℕ → ℕ → ℕ → List Code → List ℕ → List (List ℕ) → List Asking → Process → Process → Type 0
Attaches w scheme k f seg codes maps units requests old new =
    Came w scheme maps units requests old new (attached_from scheme new.state.cpu.isa k f seg codes) (answered_well w scheme.max new)

-- ---- a module goes

-- these segments are offered their candidates and let go, and module k goes with all of its segments
abbrev pub gone_from : ℕ → List Code → List ℕ → Trace → Trace
gone_from k codes is t = record t { ledger = unmapped k codes (all_offered is t.ledger); requests = t.requests ++ partings is t.ledger }

-- the run from new, where the module is gone and its call answered
abbrev pub unmapped_well : Setting → ℕ → ℕ → ℕ → Program → Process → List ℕ → Marked
unmapped_well w max k base program new more = marked max (run w new.fuel more (after_unmap new.state k base program))

-- Module k, which was mapped from this program at this base, is to go: these segments are still to be let go, and then it
-- goes.
abbrev pub Leaves : Setting → Scheme → ℕ → ℕ → Program → List ℕ → List ℕ → List (List ℕ) → List Asking → Process → Process → Type 0
Leaves w scheme k base program is maps units requests old new =
    Came w scheme maps units requests old new (gone_from k (codes_of program base) is) (unmapped_well w scheme.max k base program new)
