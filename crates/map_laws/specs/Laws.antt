-- How a stop at a map call is answered.
use Rattle.std.specs.Prelude.{◌≡◌, ℕ, ◌+◌, List, [], ◌∷◌, ◌++◌, find, Some, None, Ok, Err}
use Rattle.cc_base.specs.Image.{Code}
use Rattle.plain_machine.specs.declared.access.MemErr.{MemErr}
use Rattle.plain_machine.specs.declared.io.Asked.TheVariants as asked
use Rattle.plain_machine.specs.Memory.{Memory}
use Rattle.plain_machine.specs.Program.{Program, placed}
use Rattle.plain_machine.specs.Calls.{is_module, minus}
use Rattle.plain_machine.specs.Machine.{Setting, Maps, Unmaps, Replaces, base_at, file_at, program_in, with_result, after_unmap, after_replace}
use Rattle.block_ledger.specs.Ledger.{attached, offered, unmapped, segment_of}
use Rattle.block_ledger.specs.Requests.{Asking, AsksFile, AsksUnit, MakesBe, asked_at, parting, segments_of}
use Rattle.block_ledger.specs.Traced.{Scheme, codes_of, unit_blocks}
use Rattle.guest_proc.specs.declared.stop.Stop.TheVariants as stop
use Rattle.guest_proc.specs.Process.{Process, Comes}
use Rattle.guest_proc.specs.Maps.{placed_state, put_to}
use Rattle.map_laws.specs.Came.{Goes, Waits, Attaches, Leaves}

-- ---- a stop waits for its answer

abbrev pub MapWaits : Type 0
MapWaits = (w : Setting) (scheme : Scheme) (maps : List ℕ) (units : List (List ℕ)) (requests made : List Asking) (old mid new : Process) (k : ℕ) →
    Goes w scheme maps units requests old mid → Comes scheme made mid new (stop.Map k) → Waits w scheme maps units (requests ++ made) old new (asked.Map k) (Maps k new.state)

abbrev pub UnmapWaits : Type 0
UnmapWaits = (w : Setting) (scheme : Scheme) (maps : List ℕ) (units : List (List ℕ)) (requests made : List Asking) (old mid new : Process) (k : ℕ) →
    Goes w scheme maps units requests old mid → Comes scheme made mid new (stop.Unmap k) → Waits w scheme maps units (requests ++ made) old new (asked.Unmap k) (Unmaps k new.state)

abbrev pub ReplaceWaits : Type 0
ReplaceWaits = (w : Setting) (scheme : Scheme) (maps : List ℕ) (units : List (List ℕ)) (requests made : List Asking) (old mid new : Process) (k f : ℕ) →
    Goes w scheme maps units requests old mid → Comes scheme made mid new (stop.Replace k f) → Waits w scheme maps units (requests ++ made) old new (asked.Replace k f) (Replaces k f new.state)

-- ---- a module is mapped

-- its file f is placed
abbrev pub PlacedAttaches : Type 0
PlacedAttaches = (w : Setting) (scheme : Scheme) (maps : List ℕ) (units : List (List ℕ)) (requests : List Asking) (old new : Process) (k base f : ℕ) (program : Program) (m : Memory) →
    Waits w scheme maps units requests old new (asked.Map k) (Maps k new.state) → base_at w k ≡ Some base → file_at w f ≡ Some program → placed program base new.state.memory ≡ Ok m →
    Attaches w scheme k f 0 (codes_of program base) (maps ++ f ∷ []) units (requests ++ asked_at new.ledger.counts.blocks (AsksFile k) ∷ []) old (put_to new (placed_state new.state k f m) new.ledger)

-- its next segment is attached, with the blocks of its unit, which was asked for
abbrev pub OneMoreAttached : Type 0
OneMoreAttached = (w : Setting) (scheme : Scheme) (k f seg : ℕ) (code : Code) (codes : List Code) (maps : List ℕ) (units : List (List ℕ)) (requests : List Asking) (unit : List ℕ) (old new : Process) →
    Attaches w scheme k f seg (code ∷ codes) maps units requests old new →
    Attaches w scheme k f (seg + 1) codes maps (units ++ unit ∷ []) (requests ++ asked_at new.ledger.counts.blocks (AsksUnit (segment_of k seg) f) ∷ []) old (put_to new new.state (attached (segment_of k seg) code (unit_blocks scheme new.state.cpu.isa code unit) new.ledger))

-- all are attached, and 0 is answered
abbrev pub MapIsAnswered : Type 0
MapIsAnswered = (w : Setting) (scheme : Scheme) (k f seg : ℕ) (maps : List ℕ) (units : List (List ℕ)) (requests : List Asking) (old new : Process) →
    Attaches w scheme k f seg [] maps units requests old new → Goes w scheme maps units requests old (put_to new (with_result new.state 0) new.ledger)

-- its file f is refused
abbrev pub MapIsRefused : Type 0
MapIsRefused = (w : Setting) (scheme : Scheme) (maps : List ℕ) (units : List (List ℕ)) (requests : List Asking) (old new : Process) (k base f : ℕ) (program : Program) (e : MemErr) →
    Waits w scheme maps units requests old new (asked.Map k) (Maps k new.state) → base_at w k ≡ Some base → file_at w f ≡ Some program → placed program base new.state.memory ≡ Err e →
    Goes w scheme (maps ++ f ∷ []) units (requests ++ asked_at new.ledger.counts.blocks (AsksFile k) ∷ []) old (put_to new (with_result new.state (minus 12)) new.ledger)

-- there is no such module
abbrev pub MapIsUnknown : Type 0
MapIsUnknown = (w : Setting) (scheme : Scheme) (maps : List ℕ) (units : List (List ℕ)) (requests : List Asking) (old new : Process) (k : ℕ) →
    Waits w scheme maps units requests old new (asked.Map k) (Maps k new.state) → base_at w k ≡ None →
    Goes w scheme maps units (requests ++ asked_at new.ledger.counts.blocks (AsksFile k) ∷ []) old (put_to new (with_result new.state (minus 22)) new.ledger)

-- ---- a module is unmapped, which was mapped from this program

-- its attached segments are to be let go
abbrev pub UnmapLeaves : Type 0
UnmapLeaves = (w : Setting) (scheme : Scheme) (maps : List ℕ) (units : List (List ℕ)) (requests : List Asking) (old new : Process) (k base : ℕ) (program : Program) →
    Waits w scheme maps units requests old new (asked.Unmap k) (Unmaps k new.state) → base_at w k ≡ Some base → program_in w (find (is_module k) new.state.io.mapped) ≡ Some program →
    Leaves w scheme k base program (segments_of k new.ledger) maps units requests old new

-- the next one is offered its candidates, and is let go
abbrev pub OneMoreLeaves : Type 0
OneMoreLeaves = (w : Setting) (scheme : Scheme) (k base : ℕ) (program : Program) (i : ℕ) (is : List ℕ) (maps : List ℕ) (units : List (List ℕ)) (requests : List Asking) (old new : Process) →
    Leaves w scheme k base program (i ∷ is) maps units requests old new →
    Leaves w scheme k base program is maps units (requests ++ parting i new.ledger) old (put_to new new.state (offered i new.ledger))

-- all are, and the module goes
abbrev pub UnmapIsAnswered : Type 0
UnmapIsAnswered = (w : Setting) (scheme : Scheme) (k base : ℕ) (program : Program) (maps : List ℕ) (units : List (List ℕ)) (requests : List Asking) (old new : Process) →
    Leaves w scheme k base program [] maps units requests old new →
    Goes w scheme maps units requests old (put_to new (after_unmap new.state k base program) (unmapped k (codes_of program base) new.ledger))

-- ---- a module is to be another file

abbrev pub ReplaceIsAnswered : Type 0
ReplaceIsAnswered = (w : Setting) (scheme : Scheme) (maps : List ℕ) (units : List (List ℕ)) (requests : List Asking) (old new : Process) (k f : ℕ) →
    Waits w scheme maps units requests old new (asked.Replace k f) (Replaces k f new.state) →
    Goes w scheme maps units (requests ++ asked_at new.ledger.counts.blocks (MakesBe k f) ∷ []) old (put_to new (after_replace w new.state k f) new.ledger)
