-- Where blocks begin in a run. It looks at the run and at the most instructions of a block alone.
use Rattle.std.specs.Prelude.{ℕ, ◌-◌, ◌==◌, ◌||◌, not, Bool, true, false, if◌then◌else◌, List, [], ◌∷◌, ◌++◌, Option, Some, None, Result, Ok, Err}
use Rattle.rv_decode.specs.declared.ins.Ins.{Ins}
use Rattle.rv_decode.specs.declared.ins.Ins.TheVariants as ins
use Rattle.rv_decode.specs.Table.{instruction}
use Rattle.plain_machine.specs.declared.access.Access.{Access}
use Rattle.plain_machine.specs.declared.cpu.Done.TheVariants as done
use Rattle.plain_machine.specs.Region.{Area, holds}
use Rattle.plain_machine.specs.Memory.{fetched, region_at}
use Rattle.plain_machine.specs.Step.{Outcome, step}
use Rattle.plain_machine.specs.declared.ends.End.{End}
use Rattle.plain_machine.specs.Machine.{State}
use Rattle.plain_machine.specs.Run.{Run}

-- another instruction never follows it in its block: a jump, a branch, a call, or what ends a guest
abbrev pub ends_block : Ins → Bool
ends_block (ins.Jal rd imm) = true
ends_block (ins.Jalr rd rs1 imm) = true
ends_block (ins.Beq rs1 rs2 imm) = true
ends_block (ins.Bne rs1 rs2 imm) = true
ends_block (ins.Blt rs1 rs2 imm) = true
ends_block (ins.Bge rs1 rs2 imm) = true
ends_block (ins.Bltu rs1 rs2 imm) = true
ends_block (ins.Bgeu rs1 rs2 imm) = true
ends_block ins.Ecall = true
ends_block ins.Ebreak = true
ends_block ins.None = true
ends_block _ = false

-- the step was a store into code
abbrev pub touched : Outcome → Bool
touched (done.Touched span, cpu, m) = true
touched (done.Next, cpu, m) = false
touched (done.Taken, cpu, m) = false
touched (done.Asked, cpu, m) = false
touched (done.Fault kind, cpu, m) = false

abbrev pub closes_with : State → Result ℕ Access → Bool
closes_with s (Err _) = true
closes_with s (Ok word) = ends_block (instruction s.cpu.isa word) || touched (step word s.cpu s.memory)

-- a block ends with the instruction of s
abbrev pub closes : State → Bool
closes s = closes_with s (fetched s.memory s.cpu.pc)

-- the region that the word of s is in
abbrev pub place_of : State → Option Area
place_of s = region_at s.memory s.cpu.pc 4

abbrev pub leaves : Option Area → State → Bool
leaves None s = true
leaves (Some r) s = not (holds s.cpu.pc 4 r)

-- The instruction of s begins a block: the open block may take no more, or s is not in its region.
abbrev pub begins : ℕ → Option Area → State → Bool
begins room place s = (room == 0) || leaves place s

-- how many more instructions the block may take that has s
abbrev pub room_after : ℕ → ℕ → Bool → State → ℕ
room_after max room begun s = if closes s then 0 else (if begun then max - 1 else room - 1)

-- The states of a run, each with whether its instruction begins a block, where the open block, in this region, may
-- take `room` more
abbrev pub cut : ℕ → ℕ → Option Area → List State → List (State × Bool)
cut max room place [] = []
cut max room place (s ∷ states) = (s, begins room place s) ∷ cut max (room_after max room (begins room place s) s) (place_of s) states

-- ---- a run with its cut

pub record Marked : Type 0 where
  -- the states whose instruction is done, each with whether it begins a block
  pub marks : List (State × Bool)
  pub end : Option End
  pub output : List ℕ
  -- the map answers that were not taken
  pub left : List ℕ

-- where the open block, in this region, may take `room` more
abbrev pub marked_in : ℕ → ℕ → Option Area → Run → Marked
marked_in max room place run = record { marks = cut max room place run.states; end = run.end; output = run.output; left = run.left }

-- from the begin of a block
abbrev pub marked : ℕ → Run → Marked
marked max run = marked_in max 0 None run

-- these states come first
abbrev pub with_marks : List (State × Bool) → Marked → Marked
with_marks marks v = record v { marks = marks ++ v.marks }

-- it is over
abbrev pub over : End → List ℕ → List ℕ → Marked
over end output answers = record { marks = []; end = Some end; output = output; left = answers }
