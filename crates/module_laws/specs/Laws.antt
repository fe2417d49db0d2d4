-- What calls of a process do to its modules.
use Rattle.std.specs.Prelude.{◌≡◌, ℕ, ◌+◌, ◌<◌, true, false, ◌∷◌, drop, find, Some}
use Rattle.cc_base.specs.Image.{Code}
use Rattle.plain_machine.specs.declared.io.Mapping.{Mapping}
use Rattle.plain_machine.specs.Memory.{IsMemory}
use Rattle.plain_machine.specs.Calls.{is_mapped, is_module}
use Rattle.plain_machine.specs.Program.{Program, base_of}
use Rattle.plain_machine.specs.Machine.{Setting, base_at, file_at, with_result}
use Rattle.block_ledger.specs.Ledger.{Blocks, Ledger, attached, flushed, offered, segment_of, unmapped}
use Rattle.block_ledger.specs.Traced.{codes_of}
use Rattle.guest_proc.specs.Kept.{Keeps, image_at}
use Rattle.guest_proc.specs.Maps.{IsEntered, IsPlaced, Places, put_to, unplaced_state}
use Rattle.guest_proc.specs.Process.{Process}
use Rattle.module_laws.specs.Hosted.{AreHosted, IsBare, ModuleStands, has_start}

-- ---- a guest begins

abbrev pub BareHosts : Type 0
BareHosts = (w : Setting) (p : Process) → IsBare p → AreHosted w p

-- its program, module k, is entered from file f
abbrev pub EnterHosts : Type 0
EnterHosts = (w : Setting) (k f base : ℕ) (program : Program) (old new : Process) → IsBare old → IsEntered program base k f old new →
    ModuleStands w k f new → AreHosted w new

-- ---- it runs

abbrev pub RunHosts : Type 0
RunHosts = (w : Setting) (old new : Process) → Keeps old new → AreHosted w old → AreHosted w new

-- the result of a call is put
abbrev pub ResultHosts : Type 0
ResultHosts = (w : Setting) (old new : Process) (value : ℕ) → new ≡ put_to old (with_result old.state value) old.ledger → AreHosted w old → AreHosted w new

-- the ledger changes, and the images of its segments stay
abbrev pub LedgerHosts : Type 0
LedgerHosts = (w : Setting) (old new : Process) (led : Ledger) → new ≡ put_to old old.state led → ((i : ℕ) → image_at led i ≡ image_at old.ledger i) → AreHosted w old → AreHosted w new

-- an offer and a flush keep them
abbrev pub OfferKeepsImages : Type 0
OfferKeepsImages = (i j : ℕ) (led : Ledger) → image_at (offered i led) j ≡ image_at led j

abbrev pub FlushKeepsImages : Type 0
FlushKeepsImages = (led : Ledger) (j : ℕ) → image_at (flushed led) j ≡ image_at led j

-- ---- a module comes

-- module k is placed from file f
abbrev pub PlaceHosts : Type 0
PlaceHosts = (w : Setting) (k f base : ℕ) (program : Program) (old new : Process) → base_at w k ≡ Some base → file_at w f ≡ Some program → is_mapped old.state.io k ≡ false →
    Places program base k f old new true → IsMemory new.state.memory → ModuleStands w k f new → AreHosted w old → AreHosted w new

-- one of its segments is attached
abbrev pub AttachHosts : Type 0
AttachHosts = (w : Setting) (k seg base : ℕ) (mapping : Mapping) (program : Program) (code : Code) (unit : Blocks) (old new : Process) → find (is_module k) old.state.io.mapped ≡ Some mapping →
    base_at w k ≡ Some base → file_at w mapping.file ≡ Some program → seg < 4 → has_start (base_of program base) program.segments code.start ≡ true →
    new ≡ put_to old old.state (attached (segment_of k seg) code unit old.ledger) → AreHosted w old → AreHosted w new

-- the code of an executable segment starts where the segment does
abbrev pub CodesStart : Type 0
CodesStart = (program : Program) (base seg : ℕ) (code : Code) → drop seg (codes_of program base) ≡ code ∷ drop (seg + 1) (codes_of program base) →
    has_start (base_of program base) program.segments code.start ≡ true

-- ---- a module goes

-- module k, which is mapped from file f, stands alone
abbrev pub MappedIsPlaced : Type 0
MappedIsPlaced = (w : Setting) (k base : ℕ) (mapping : Mapping) (program : Program) (p : Process) → find (is_module k) p.state.io.mapped ≡ Some mapping →
    base_at w k ≡ Some base → file_at w mapping.file ≡ Some program → AreHosted w p → IsPlaced p.state.memory p.state.io.heap k program base p.ledger

abbrev pub UnplaceHosts : Type 0
UnplaceHosts = (w : Setting) (k base : ℕ) (mapping : Mapping) (program : Program) (old new : Process) → find (is_module k) old.state.io.mapped ≡ Some mapping →
    base_at w k ≡ Some base → file_at w mapping.file ≡ Some program → new ≡ put_to old (unplaced_state old.state k program base) (unmapped k (codes_of program base) old.ledger) →
    AreHosted w old → AreHosted w new
