-- One word done: the effect of an instruction, and its performance.
use Rattle.std.specs.Prelude.{ℕ, ◌+◌, ◌*◌, ◌/◌, ◌%◌, ◌^◌, ◌<◌, ◌==◌, if◌then◌else◌, Bool, true, false, ℤ, slice_index, Option, Some, None, Result, Ok, Err}
use Rattle.std.specs.Int.{w8, w16, cast_signed}
use Rattle.rv_decode.specs.declared.ins.Ins.{Ins}
use Rattle.rv_decode.specs.declared.ins.Ins.TheVariants as ins
use Rattle.rv_decode.specs.Table.{instruction}
use Rattle.plain_machine.specs.declared.access.Access.{Access}
use Rattle.plain_machine.specs.declared.access.Size.{Size}
use Rattle.plain_machine.specs.declared.access.Size.TheVariants.{Byte, Half, Word}
use Rattle.plain_machine.specs.Memory.{Memory, size_of, loaded, stored, touches_code}
use Rattle.plain_machine.specs.declared.operation.Op.TheVariants as ops
use Rattle.plain_machine.specs.declared.operation.Comparison.{Comparison}
use Rattle.plain_machine.specs.declared.operation.Comparison.TheVariants as comparisons
use Rattle.plain_machine.specs.declared.cpu.Cpu.{Cpu}
use Rattle.plain_machine.specs.declared.ends.Kind.TheVariants as kinds
use Rattle.plain_machine.specs.declared.ends.Kind.TheVariants.{Misaligned, Illegal, Break}
use Rattle.plain_machine.specs.declared.cpu.Done.{Done}
use Rattle.plain_machine.specs.declared.cpu.Done.TheVariants as done
use Rattle.plain_machine.specs.declared.effect.Effect.{Effect}
use Rattle.plain_machine.specs.declared.effect.Effect.TheVariants as effects
use Rattle.plain_machine.specs.declared.effect.Effect.TheVariants.{Set, Jump, Store, Nothing, Ask}
use Rattle.plain_machine.specs.declared.effect.Extension.{Extension}
use Rattle.plain_machine.specs.declared.effect.Extension.TheVariants.{Zero, Sign}
use Rattle.plain_machine.specs.Registers.{with_register}
use Rattle.plain_machine.specs.Alu.{computed, is_taken, word}

abbrev pub reg : Cpu → ℕ → ℕ
reg cpu r = slice_index cpu.regs r

-- an immediate is added modulo 2^32
abbrev pub offset : ℕ → ℤ → ℕ
offset base imm = (base + word imm) % 2 ^ 32

-- the address of a load or a store: a register, and an offset
abbrev pub address : Cpu → ℕ → ℤ → ℕ
address cpu rs1 imm = offset (reg cpu rs1) imm

-- where JAL goes
abbrev pub jal_target : Cpu → ℤ → ℕ
jal_target cpu imm = offset cpu.pc imm

-- where JALR goes: bit 0 is cleared
abbrev pub jalr_target : Cpu → ℕ → ℤ → ℕ
jalr_target cpu rs1 imm = offset (reg cpu rs1) imm / 2 * 2

abbrev pub branch : Comparison → ℕ → ℕ → ℕ → Effect
branch c x y target = if is_taken c x y then Jump 0 target else Nothing

-- a loaded number, with the upper bits filled
abbrev pub extended : Extension → Size → ℕ → ℕ
extended Zero size n = n
extended Sign Byte n = word (cast_signed w8 n)
extended Sign Half n = word (cast_signed w16 n)
extended Sign Word n = n

abbrev pub load : ℕ → Extension → Size → Result ℕ Access → Effect
load rd e size (Ok n) = Set rd (extended e size n)
load rd e size (Err _) = effects.Fault kinds.Load

-- what an instruction does
abbrev pub effect_of : Ins → Cpu → Memory → Effect
effect_of (ins.Lui rd imm) cpu m = Set rd (word imm)
effect_of (ins.Auipc rd imm) cpu m = Set rd (offset cpu.pc imm)
effect_of (ins.Jal rd imm) cpu m = Jump rd (jal_target cpu imm)
effect_of (ins.Jalr rd rs1 imm) cpu m = Jump rd (jalr_target cpu rs1 imm)
effect_of (ins.Beq rs1 rs2 imm) cpu m = branch comparisons.Eq (reg cpu rs1) (reg cpu rs2) (offset cpu.pc imm)
effect_of (ins.Bne rs1 rs2 imm) cpu m = branch comparisons.Ne (reg cpu rs1) (reg cpu rs2) (offset cpu.pc imm)
effect_of (ins.Blt rs1 rs2 imm) cpu m = branch comparisons.Lt (reg cpu rs1) (reg cpu rs2) (offset cpu.pc imm)
effect_of (ins.Bge rs1 rs2 imm) cpu m = branch comparisons.Ge (reg cpu rs1) (reg cpu rs2) (offset cpu.pc imm)
effect_of (ins.Bltu rs1 rs2 imm) cpu m = branch comparisons.Ltu (reg cpu rs1) (reg cpu rs2) (offset cpu.pc imm)
effect_of (ins.Bgeu rs1 rs2 imm) cpu m = branch comparisons.Geu (reg cpu rs1) (reg cpu rs2) (offset cpu.pc imm)
effect_of (ins.Lb rd rs1 imm) cpu m = load rd Sign Byte (loaded m (address cpu rs1 imm) Byte)
effect_of (ins.Lh rd rs1 imm) cpu m = load rd Sign Half (loaded m (address cpu rs1 imm) Half)
effect_of (ins.Lw rd rs1 imm) cpu m = load rd Sign Word (loaded m (address cpu rs1 imm) Word)
effect_of (ins.Lbu rd rs1 imm) cpu m = load rd Zero Byte (loaded m (address cpu rs1 imm) Byte)
effect_of (ins.Lhu rd rs1 imm) cpu m = load rd Zero Half (loaded m (address cpu rs1 imm) Half)
effect_of (ins.Sb rs1 rs2 imm) cpu m = Store (address cpu rs1 imm) Byte (reg cpu rs2)
effect_of (ins.Sh rs1 rs2 imm) cpu m = Store (address cpu rs1 imm) Half (reg cpu rs2)
effect_of (ins.Sw rs1 rs2 imm) cpu m = Store (address cpu rs1 imm) Word (reg cpu rs2)
effect_of (ins.Addi rd rs1 imm) cpu m = Set rd (computed ops.Add (reg cpu rs1) (word imm))
effect_of (ins.Slti rd rs1 imm) cpu m = Set rd (computed ops.Slt (reg cpu rs1) (word imm))
effect_of (ins.Sltiu rd rs1 imm) cpu m = Set rd (computed ops.Sltu (reg cpu rs1) (word imm))
effect_of (ins.Xori rd rs1 imm) cpu m = Set rd (computed ops.Xor (reg cpu rs1) (word imm))
effect_of (ins.Ori rd rs1 imm) cpu m = Set rd (computed ops.Or (reg cpu rs1) (word imm))
effect_of (ins.Andi rd rs1 imm) cpu m = Set rd (computed ops.And (reg cpu rs1) (word imm))
effect_of (ins.Slli rd rs1 imm) cpu m = Set rd (computed ops.Sll (reg cpu rs1) (word imm))
effect_of (ins.Srli rd rs1 imm) cpu m = Set rd (computed ops.Srl (reg cpu rs1) (word imm))
effect_of (ins.Srai rd rs1 imm) cpu m = Set rd (computed ops.Sra (reg cpu rs1) (word imm))
effect_of (ins.Add rd rs1 rs2) cpu m = Set rd (computed ops.Add (reg cpu rs1) (reg cpu rs2))
effect_of (ins.Sub rd rs1 rs2) cpu m = Set rd (computed ops.Sub (reg cpu rs1) (reg cpu rs2))
effect_of (ins.Sll rd rs1 rs2) cpu m = Set rd (computed ops.Sll (reg cpu rs1) (reg cpu rs2))
effect_of (ins.Slt rd rs1 rs2) cpu m = Set rd (computed ops.Slt (reg cpu rs1) (reg cpu rs2))
effect_of (ins.Sltu rd rs1 rs2) cpu m = Set rd (computed ops.Sltu (reg cpu rs1) (reg cpu rs2))
effect_of (ins.Xor rd rs1 rs2) cpu m = Set rd (computed ops.Xor (reg cpu rs1) (reg cpu rs2))
effect_of (ins.Srl rd rs1 rs2) cpu m = Set rd (computed ops.Srl (reg cpu rs1) (reg cpu rs2))
effect_of (ins.Sra rd rs1 rs2) cpu m = Set rd (computed ops.Sra (reg cpu rs1) (reg cpu rs2))
effect_of (ins.Or rd rs1 rs2) cpu m = Set rd (computed ops.Or (reg cpu rs1) (reg cpu rs2))
effect_of (ins.And rd rs1 rs2) cpu m = Set rd (computed ops.And (reg cpu rs1) (reg cpu rs2))
effect_of (ins.Mul rd rs1 rs2) cpu m = Set rd (computed ops.Mul (reg cpu rs1) (reg cpu rs2))
effect_of (ins.Mulh rd rs1 rs2) cpu m = Set rd (computed ops.Mulh (reg cpu rs1) (reg cpu rs2))
effect_of (ins.Mulhsu rd rs1 rs2) cpu m = Set rd (computed ops.Mulhsu (reg cpu rs1) (reg cpu rs2))
effect_of (ins.Mulhu rd rs1 rs2) cpu m = Set rd (computed ops.Mulhu (reg cpu rs1) (reg cpu rs2))
effect_of (ins.Div rd rs1 rs2) cpu m = Set rd (computed ops.Div (reg cpu rs1) (reg cpu rs2))
effect_of (ins.Divu rd rs1 rs2) cpu m = Set rd (computed ops.Divu (reg cpu rs1) (reg cpu rs2))
effect_of (ins.Rem rd rs1 rs2) cpu m = Set rd (computed ops.Rem (reg cpu rs1) (reg cpu rs2))
effect_of (ins.Remu rd rs1 rs2) cpu m = Set rd (computed ops.Remu (reg cpu rs1) (reg cpu rs2))
effect_of ins.Fence cpu m = Nothing
effect_of ins.FenceI cpu m = Nothing
effect_of ins.Ecall cpu m = Ask
effect_of ins.Ebreak cpu m = effects.Fault Break
effect_of ins.None cpu m = effects.Fault Illegal

-- ---- what a tool may see of an instruction before it is done

-- the bytes that a load or a store is to reach
pub record Accessed : Type 0 where
  pub address : ℕ
  pub size : Size
  -- they are written, not read
  pub store : Bool

abbrev pub reads : Cpu → ℕ → ℤ → Size → Option Accessed
reads cpu rs1 imm size = Some (record { address = address cpu rs1 imm; size = size; store = false })

abbrev pub writes : Cpu → ℕ → ℤ → Size → Option Accessed
writes cpu rs1 imm size = Some (record { address = address cpu rs1 imm; size = size; store = true })

-- none where the instruction is no load and no store
abbrev pub access_of : Ins → Cpu → Option Accessed
access_of (ins.Lb rd rs1 imm) cpu = reads cpu rs1 imm Byte
access_of (ins.Lh rd rs1 imm) cpu = reads cpu rs1 imm Half
access_of (ins.Lw rd rs1 imm) cpu = reads cpu rs1 imm Word
access_of (ins.Lbu rd rs1 imm) cpu = reads cpu rs1 imm Byte
access_of (ins.Lhu rd rs1 imm) cpu = reads cpu rs1 imm Half
access_of (ins.Sb rs1 rs2 imm) cpu = writes cpu rs1 imm Byte
access_of (ins.Sh rs1 rs2 imm) cpu = writes cpu rs1 imm Half
access_of (ins.Sw rs1 rs2 imm) cpu = writes cpu rs1 imm Word
access_of _ cpu = None

-- where a jump is to go, aligned or not; none where the instruction is no JAL and no JALR
abbrev pub target_of : Ins → Cpu → Option ℕ
target_of (ins.Jal rd imm) cpu = Some (jal_target cpu imm)
target_of (ins.Jalr rd rs1 imm) cpu = Some (jalr_target cpu rs1 imm)
target_of _ cpu = None

-- ---- performance

-- the register that the effect changes is one of the 32
abbrev pub SetsRegister : Effect → Type 0
SetsRegister (Set rd value) = rd < 32
SetsRegister (Jump rd target) = rd < 32
SetsRegister (Store addr size value) = Unit {0}
SetsRegister Nothing = Unit {0}
SetsRegister Ask = Unit {0}
SetsRegister (effects.Fault kind) = Unit {0}

-- what was done, and the processor and the memory after it
abbrev pub Outcome : Type 0
Outcome = Done × Cpu × Memory

abbrev pub next : Cpu → ℕ
next cpu = (cpu.pc + 4) % 2 ^ 32

abbrev pub store : Cpu → Memory → ℕ → ℕ → Result Memory Access → Outcome
store cpu m addr n (Ok after) = (if touches_code after addr n then done.Touched (record { start = addr; len = n }) else done.Next, record cpu { pc = next cpu }, after)
store cpu m addr n (Err _) = (done.Fault kinds.Store, cpu, m)

abbrev pub performed : Effect → Cpu → Memory → Outcome
performed (Set rd value) cpu m = (done.Next, record cpu { pc = next cpu; regs = with_register cpu.regs rd value }, m)
performed (Jump rd target) cpu m = if target % 4 == 0 then (done.Taken, record cpu { pc = target; regs = with_register cpu.regs rd (next cpu) }, m) else (done.Fault Misaligned, cpu, m)
performed (Store addr size value) cpu m = store cpu m addr (size_of size) (stored m addr size value)
performed Nothing cpu m = (done.Next, record cpu { pc = next cpu }, m)
performed Ask cpu m = (done.Asked, cpu, m)
performed (effects.Fault kind) cpu m = (done.Fault kind, cpu, m)

-- the step that a word does
abbrev pub step : ℕ → Cpu → Memory → Outcome
step w cpu m = performed (effect_of (instruction cpu.isa w) cpu m) cpu m
