-- The modules of a process.
use Rattle.std.specs.Prelude.{◌≡◌, ℕ, ◌+◌, ◌/◌, ◌==◌, ◌⊎◌, ◌≤◌, Bool, true, false, List, [], ◌∷◌, ◌++◌, Option, Some, None, Result, Ok, Err}
use Rattle.std.specs.FinMap as fin
use Rattle.cc_base.specs.Image.{Code}
use Rattle.plain_machine.specs.declared.access.MemErr.{MemErr}
use Rattle.plain_machine.specs.declared.io.Heap.{Heap}
use Rattle.plain_machine.specs.Memory.{IsMemory, Memory, without_first}
use Rattle.plain_machine.specs.Calls.{is_module}
use Rattle.plain_machine.specs.Program.{Program, Segment, base_of, entry_of, placed, top_of, unplaced}
use Rattle.plain_machine.specs.Machine.{State, heap_from}
use Rattle.block_book.specs.Clauses.{IsClear}
use Rattle.block_ledger.specs.Ledger.{Ledger, Segment as Attached}
use Rattle.region_laws.specs.Laws.{Stand}
use Rattle.region_laws.specs.Standing.{AllStand}
use Rattle.guest_proc.specs.Process.{Process}

-- the same, in another state and with another ledger
abbrev pub put_to : Process → State → Ledger → Process
put_to p s led = record p { state = s; ledger = led }

-- ---- a module comes

-- module k is mapped from file f
abbrev pub placed_state : State → ℕ → ℕ → Memory → State
placed_state s k f m = record s { memory = m; io = record s.io { mapped = s.io.mapped ++ record { «module» = k; file = f } ∷ [] } }

-- its file was placed, or refused
abbrev pub Places : Program → ℕ → ℕ → ℕ → Process → Process → Bool → Type 0
Places program base k f old new true = (m : Memory) × (placed program base old.state.memory ≡ Ok m) × (new ≡ put_to old (placed_state old.state k f m) old.ledger)
Places program base k f old new false = (e : MemErr) × (placed program base old.state.memory ≡ Err e) × (new ≡ old)

-- module k is mapped from file f, the program that is run: it begins at the entry, with its heap behind the top
abbrev pub entered_state : State → ℕ → ℕ → ℕ → ℕ → Memory → State
entered_state s k f entry top m = record s {
  cpu = record s.cpu { pc = entry };
  memory = m;
  io = record s.io { heap = heap_from top; mapped = s.io.mapped ++ record { «module» = k; file = f } ∷ [] };
}

-- the program was placed, and is entered
pub record IsEntered (program : Program) (base k f : ℕ) (old new : Process) : Type 0 where
  pub memory : Memory
  pub entry : ℕ
  pub placed : placed program base old.state.memory ≡ Ok memory
  pub entered : entry_of program base ≡ Some entry
  pub becomes : new ≡ put_to old (entered_state old.state k f entry (top_of program base) memory) old.ledger

-- it has no entry there, or is refused
abbrev pub CannotEnter : Program → ℕ → Memory → Type 0
CannotEnter program base m = (entry_of program base ≡ None) ⊎ ((e : MemErr) × (placed program base m ≡ Err e))

abbrev pub Enters : Program → ℕ → ℕ → ℕ → Process → Process → Bool → Type 0
Enters program base k f old new true = IsEntered program base k f old new
Enters program base k f old new false = CannotEnter program base old.state.memory × (new ≡ old)

-- no live block begins in this code, and no segment is attached where it starts
pub record IsVacant (code : Code) (led : Ledger) : Type 0 where
  pub clear : IsClear code led
  pub none : (i : ℕ) (seg : Attached) → fin.get led.segments i ≡ Some seg → seg.image.start ≡ code.start → ⊥

-- the same of all of these
abbrev pub AreClear : List Code → Ledger → Type 0
AreClear [] led = Unit {0}
AreClear (c ∷ cs) led = IsVacant c led × AreClear cs led

-- a program was placed, or refused with the memory as it was
abbrev pub Placing : Result Memory MemErr → Memory → Memory → Bool → Type 0
Placing made old new true = made ≡ Ok new
Placing made old new false = (e : MemErr) × (made ≡ Err e) × (new ≡ old)

-- it was placed: its regions stand and its code is there, and so does all that stood
pub record StandsNow (program : Program) (base : ℕ) (m after : Memory) (heap : Option Heap) : Type 0 where
  pub top : top_of program base ≤ 4294967295
  pub memory : IsMemory after
  pub stand : Stand program base m after heap

-- ---- a module goes

-- module k, which was placed from this program at this base, is mapped no more
abbrev pub unplaced_state : State → ℕ → Program → ℕ → State
unplaced_state s k program base = record s { memory = unplaced program base s.memory; io = record s.io { mapped = without_first (is_module k) s.io.mapped } }

-- where these segments start, no segment of another module is attached
abbrev pub OthersStartElsewhere : ℕ → ℕ → List Segment → Ledger → Type 0
OthersStartElsewhere k base [] led = Unit {0}
OthersStartElsewhere k base (s ∷ ss) led =
    ((i : ℕ) (seg : Attached) → fin.get led.segments i ≡ Some seg → seg.image.start ≡ base + s.vaddr → (i / 4 == k) ≡ true) × OthersStartElsewhere k base ss led

-- the program stands at this base, for module k alone
pub record IsPlaced (m : Memory) (heap : Option Heap) (k : ℕ) (program : Program) (base : ℕ) (led : Ledger) : Type 0 where
  pub stand : AllStand m heap (base_of program base) program.segments
  pub alone : OthersStartElsewhere k (base_of program base) program.segments led
