-- The plain machine: its states, and what each of them does where there is fuel.
use Rattle.std.specs.Prelude.{ℕ, ◌-◌, ◌+◌, ◌*◌, ◌/◌, ◌&&◌, nat_lt, Bool, if◌then◌else◌, List, [], ◌∷◌, ◌++◌, length, replicate, slice_set, slice_get, find, Option, Some, None, Result, Ok, Err, true, false}
use Rattle.rv_decode.specs.declared.ins.Isa.{Isa}
use Rattle.plain_machine.specs.declared.access.Access.{Access}
use Rattle.plain_machine.specs.declared.access.MemErr.{MemErr}
use Rattle.plain_machine.specs.declared.cpu.Cpu.{Cpu}
use Rattle.plain_machine.specs.declared.cpu.Done.TheVariants as done
use Rattle.plain_machine.specs.declared.ends.End.{End}
use Rattle.plain_machine.specs.declared.ends.End.TheVariants as ends
use Rattle.plain_machine.specs.declared.ends.Kind.TheVariants as kinds
use Rattle.plain_machine.specs.declared.io.Asked.TheVariants as asked
use Rattle.plain_machine.specs.declared.io.Heap.{Heap}
use Rattle.plain_machine.specs.declared.io.Mapping.{Mapping}
use Rattle.plain_machine.specs.Registers.{with_register}
use Rattle.plain_machine.specs.Region.{Area, region_of}
use Rattle.plain_machine.specs.Memory.{Memory, fetched, data_flags, without_first}
use Rattle.plain_machine.specs.Step.{Outcome, step}
use Rattle.plain_machine.specs.Io.{Io}
use Rattle.plain_machine.specs.Calls.{Reply, called, is_module, minus}
use Rattle.plain_machine.specs.Program.{Program, placed, unplaced, entry_of, top_of}

pub record State : Type 0 where
  -- instruction set, program counter and registers
  pub cpu : Cpu
  pub memory : Memory
  -- input left, output, heap, map calls made and modules mapped
  pub io : Io

-- ---- one instruction

-- What a state does where there is fuel. The word may not be there; else an instruction is done, and it ends the run,
-- leads to a state, or asks for an answer that is to be put into this state.
pub data Action : Type 0 where
  Unfetched : Action
  Ends : End → Action
  Goes : State → Action
  Maps : (k : ℕ) → State → Action
  Unmaps : (k : ℕ) → State → Action
  Replaces : (k f : ℕ) → State → Action

-- what a call comes to
abbrev pub replied : State → Reply → Action
replied s (asked.Back span, cpu, m, io) = Goes (record { cpu = cpu; memory = m; io = io })
replied s (asked.Exit status, cpu, m, io) = Ends (ends.Exit status)
replied s (asked.Map k, cpu, m, io) = Maps k (record { cpu = cpu; memory = m; io = io })
replied s (asked.Unmap k, cpu, m, io) = Unmaps k (record { cpu = cpu; memory = m; io = io })
replied s (asked.Replace k f, cpu, m, io) = Replaces k f (record { cpu = cpu; memory = m; io = io })
replied s (asked.OutputFull, cpu, m, io) = Ends (ends.Fault kinds.Output s.cpu.pc)

abbrev pub call : State → Action
call s = replied s (called s.cpu s.memory s.io)

-- what the step of a word comes to
abbrev pub stepped : State → Outcome → Action
stepped s (done.Next, cpu, m) = Goes (record s { cpu = cpu; memory = m })
stepped s (done.Taken, cpu, m) = Goes (record s { cpu = cpu; memory = m })
stepped s (done.Touched span, cpu, m) = Goes (record s { cpu = cpu; memory = m })
stepped s (done.Fault kind, cpu, m) = Ends (ends.Fault kind s.cpu.pc)
stepped s (done.Asked, cpu, m) = call s

abbrev pub action_at : Result ℕ Access → State → Action
action_at (Err _) s = Unfetched
action_at (Ok word) s = stepped s (step word s.cpu s.memory)

abbrev pub action : State → Action
action s = action_at (fetched s.memory s.cpu.pc) s

-- the word was there, so the instruction is done
abbrev pub is_done : Action → Bool
is_done Unfetched = false
is_done (Ends end) = true
is_done (Goes next) = true
is_done (Maps k next) = true
is_done (Unmaps k next) = true
is_done (Replaces k f next) = true

-- ---- what a guest finds outside

pub record Setting : Type 0 where
  -- per module, where it is to stand
  pub bases : List ℕ
  pub files : List Program

abbrev pub base_at : Setting → ℕ → Option ℕ
base_at w k = slice_get w.bases k

abbrev pub file_at : Setting → ℕ → Option Program
file_at w f = slice_get w.files f

abbrev pub is_below : {A : Type 0} → ℕ → List A → Bool
is_below k xs = nat_lt k (length xs)

-- ---- one turn, with its answer

-- What a state comes to, given map answers. The run goes on from a state with the answers that are left, or it is over,
-- or something is wanted that is not there: a map answer, or the file that an answer or a mapped module names.
pub data Transition : Type 0 where
  To : State → List ℕ → Transition
  Final : End → List ℕ → Transition
  Stuck : Transition

-- the result of a call
abbrev pub with_result : State → ℕ → State
with_result s value = record s { cpu = record s.cpu { regs = with_register s.cpu.regs 10 value } }

-- module k was to be mapped from file f
abbrev pub after_placing : State → ℕ → ℕ → Result Memory MemErr → State
after_placing s k f (Ok m) =
    with_result (record s { memory = m; io = record s.io { mapped = s.io.mapped ++ record { «module» = k; file = f } ∷ [] } }) 0
after_placing s k f (Err _) = with_result s (minus 12)

-- file f is this program
abbrev pub map_file : State → ℕ → ℕ → ℕ → List ℕ → Option Program → Transition
map_file s k base f answers None = Stuck
map_file s k base f answers (Some program) = To (after_placing s k f (placed program base s.memory)) answers

-- module k is to stand at this base: the next answer says which file it is
abbrev pub map_answered : Setting → State → ℕ → ℕ → List ℕ → Transition
map_answered w s k base [] = Stuck
map_answered w s k base (f ∷ answers) = map_file s k base f answers (file_at w f)

-- module k is to be mapped; a number that is no module's takes no answer
abbrev pub map_module : Setting → State → ℕ → List ℕ → Option ℕ → Transition
map_module w s k answers None = To (with_result s (minus 22)) answers
map_module w s k answers (Some base) = map_answered w s k base answers

-- the regions of module k go, which was mapped from this program
abbrev pub after_unmap : State → ℕ → ℕ → Program → State
after_unmap s k base program = with_result (record s {
  memory = unplaced program base s.memory;
  io = record s.io { mapped = without_first (is_module k) s.io.mapped };
}) 0

abbrev pub unmap_from : State → ℕ → List ℕ → Option ℕ → Option Program → Transition
unmap_from s k answers (Some base) (Some program) = To (after_unmap s k base program) answers
unmap_from s k answers (Some base) None = Stuck
unmap_from s k answers None (Some program) = Stuck
unmap_from s k answers None None = Stuck

-- the program that module k was mapped from
abbrev pub program_in : Setting → Option Mapping → Option Program
program_in w None = None
program_in w (Some mapping) = file_at w mapping.file

abbrev pub unmap_module : Setting → State → ℕ → List ℕ → Transition
unmap_module w s k answers = unmap_from s k answers (base_at w k) (program_in w (find (is_module k) s.io.mapped))

-- module k is to be file f
abbrev pub after_replace : Setting → State → ℕ → ℕ → State
after_replace w s k f = with_result s (if is_below k w.bases && is_below f w.files then 0 else minus 22)

abbrev pub transition_by : Setting → List ℕ → State → Action → Transition
transition_by w answers s Unfetched = Final (ends.Fault kinds.Fetch s.cpu.pc) answers
transition_by w answers s (Ends end) = Final end answers
transition_by w answers s (Goes next) = To next answers
transition_by w answers s (Maps k next) = map_module w next k answers (base_at w k)
transition_by w answers s (Unmaps k next) = unmap_module w next k answers
transition_by w answers s (Replaces k f next) = To (after_replace w next k f) answers

abbrev pub transition : Setting → List ℕ → State → Transition
transition w answers s = transition_by w answers s (action s)

-- ---- the start

pub record Guest : Type 0 where
  pub isa : Isa
  -- the number of the module that its program is
  pub program : ℕ
  -- the size of its stack, in bytes
  pub stack : ℕ
  pub input : List ℕ
  -- the most instructions that are done
  pub fuel : ℕ

-- all registers are 0 but x2
abbrev pub first_registers : List ℕ
first_registers = slice_set (replicate 32 0) 2 0x7fffffc0

-- the stack lies below 80000000
abbrev pub stack_of : ℕ → Area
stack_of size = region_of (0x80000000 - size) data_flags [] size

-- the heap is empty, at the least multiple of 16 behind the program, where that is an address
abbrev pub heap_from : ℕ → Option Heap
heap_from top =
    let start = (top + 15) / 16 * 16 in
    if nat_lt 4294967295 start then None else Some (record { start = start; end = start })

abbrev pub first_state : Guest → ℕ → ℕ → ℕ → Memory → State
first_state g f entry top m = record {
  cpu = record { pc = entry; isa = g.isa; regs = first_registers };
  memory = m;
  io = record { input = g.input; output = []; heap = heap_from top; map_calls = 0; mapped = record { «module» = g.program; file = f } ∷ [] };
}

abbrev pub start_at : Guest → ℕ → Option ℕ → ℕ → Result Memory MemErr → Option State
start_at g f (Some entry) top (Ok m) = Some (first_state g f entry top m)
start_at g f (Some entry) top (Err _) = None
start_at g f None top (Ok m) = None
start_at g f None top (Err _) = None

-- the first state of a guest whose module's program is file f, this one, to stand at this base; none where it cannot be
-- placed or entered
abbrev pub start : Guest → ℕ → ℕ → Program → Option State
start g f base program = start_at g f (entry_of program base) (top_of program base) (placed program base (stack_of g.stack ∷ []))
