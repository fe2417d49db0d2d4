-- The modules of a process, as whoever answers its calls keeps them.
use Rattle.std.specs.Prelude.{◌≡◌, ℕ, ◌+◌, ◌/◌, ◌==◌, ◌≤◌, Bool, true, false, List, [], find, Option, Some, None}
use Rattle.std.specs.List.{list_any}
use Rattle.std.specs.FinMap as fin
use Rattle.cc_base.specs.Image.{Code}
use Rattle.plain_machine.specs.declared.io.Mapping.{Mapping}
use Rattle.plain_machine.specs.Memory.{without_first}
use Rattle.plain_machine.specs.Calls.{is_module}
use Rattle.plain_machine.specs.Program.{Program, Segment, base_of, top_of}
use Rattle.plain_machine.specs.Machine.{Setting, base_at, file_at}
use Rattle.region_laws.specs.Standing.{AllStand}
use Rattle.guest_proc.specs.Kept.{image_at}
use Rattle.guest_proc.specs.Process.{Process}

-- one of these segments starts at x
abbrev pub has_start : ℕ → List Segment → ℕ → Bool
has_start base ss x = list_any (λ s. x == base + s.vaddr) ss

abbrev pub program_starts : Option Program → Option ℕ → ℕ → Bool
program_starts None base x = false
program_starts (Some program) None x = false
program_starts (Some program) (Some base) x = has_start (base_of program base) program.segments x

-- a segment of module k starts at x, where the module is mapped from file f
abbrev pub starts_in : Setting → ℕ → ℕ → ℕ → Bool
starts_in w k f x = program_starts (file_at w f) (base_at w k) x

-- the file is there and so is the module, its segments end at addresses, and their regions stand
pub record ModuleStands (w : Setting) (k f : ℕ) (p : Process) : Type 0 where
  pub base : ℕ
  pub program : Program
  pub stands : base_at w k ≡ Some base
  pub known : file_at w f ≡ Some program
  pub top : top_of program base ≤ 4294967295
  pub stand : AllStand p.state.memory p.state.io.heap (base_of program base) program.segments

-- segment i is one of a module that is mapped, which has a segment that starts at x
pub record IsOwn (w : Setting) (i x : ℕ) (p : Process) : Type 0 where
  pub mapping : Mapping
  pub mapped : find (is_module (i / 4)) p.state.io.mapped ≡ Some mapping
  pub starts : starts_in w (i / 4) mapping.file x ≡ true

-- Each module is mapped once at most, and stands; a segment starts where no other module has one; and each attached segment
-- is one of a module that is mapped.
pub record AreHosted (w : Setting) (p : Process) : Type 0 where
  pub once : (k : ℕ) → find (is_module k) (without_first (is_module k) p.state.io.mapped) ≡ None
  pub stands : (k : ℕ) (mapping : Mapping) → find (is_module k) p.state.io.mapped ≡ Some mapping → ModuleStands w k mapping.file p
  pub apart : (j k : ℕ) (a b : Mapping) (x : ℕ) → find (is_module j) p.state.io.mapped ≡ Some a → find (is_module k) p.state.io.mapped ≡ Some b →
      starts_in w j a.file x ≡ true → starts_in w k b.file x ≡ true → j ≡ k
  pub own : (i : ℕ) (code : Code) → image_at p.ledger i ≡ Some code → IsOwn w i code.start p

-- nothing is mapped, and no segment attached
pub record IsBare (p : Process) : Type 0 where
  pub mapped : p.state.io.mapped ≡ []
  pub segments : p.ledger.segments ≡ fin.empty
