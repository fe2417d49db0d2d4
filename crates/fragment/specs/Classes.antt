-- What tools tell apart among instructions.
use Rattle.std.specs.Prelude.{ℕ, if◌then◌else◌}
use Rattle.rv_decode.specs.declared.ins.Ins.{Ins}
use Rattle.rv_decode.specs.declared.ins.Ins.TheVariants as ins
use Rattle.plain_machine.specs.Events.{is_link}
use Rattle.probe_tools.specs.declared.probe.Class.{Class}
use Rattle.probe_tools.specs.declared.probe.Class.TheVariants.{Plain, Call, Jump, Branch, Load, Store, Ask, Break}
use Rattle.probe_tools.specs.declared.probe.Class.TheVariants as classes

-- a jump that keeps in rd where it came from
abbrev pub jump_class : ℕ → Class
jump_class rd = if is_link rd then Call else Jump

abbrev pub class_of : Ins → Class
class_of (ins.Jal rd imm) = jump_class rd
class_of (ins.Jalr rd rs1 imm) = jump_class rd
class_of (ins.Beq rs1 rs2 imm) = Branch
class_of (ins.Bne rs1 rs2 imm) = Branch
class_of (ins.Blt rs1 rs2 imm) = Branch
class_of (ins.Bge rs1 rs2 imm) = Branch
class_of (ins.Bltu rs1 rs2 imm) = Branch
class_of (ins.Bgeu rs1 rs2 imm) = Branch
class_of (ins.Lb rd rs1 imm) = Load
class_of (ins.Lh rd rs1 imm) = Load
class_of (ins.Lw rd rs1 imm) = Load
class_of (ins.Lbu rd rs1 imm) = Load
class_of (ins.Lhu rd rs1 imm) = Load
class_of (ins.Sb rs1 rs2 imm) = Store
class_of (ins.Sh rs1 rs2 imm) = Store
class_of (ins.Sw rs1 rs2 imm) = Store
class_of ins.Ecall = Ask
class_of ins.Ebreak = Break
class_of ins.None = classes.None
class_of _ = Plain
