-- Which set an instruction is of.
use Rattle.std.specs.Prelude.{Bool, true, false}
use Rattle.rv_decode.specs.declared.ins.Ins.{Ins}
use Rattle.rv_decode.specs.declared.ins.Ins.TheVariants as ins

-- one of the eight of RV32M
abbrev pub is_of_m : Ins → Bool
is_of_m (ins.Mul rd rs1 rs2) = true
is_of_m (ins.Mulh rd rs1 rs2) = true
is_of_m (ins.Mulhsu rd rs1 rs2) = true
is_of_m (ins.Mulhu rd rs1 rs2) = true
is_of_m (ins.Div rd rs1 rs2) = true
is_of_m (ins.Divu rd rs1 rs2) = true
is_of_m (ins.Rem rd rs1 rs2) = true
is_of_m (ins.Remu rd rs1 rs2) = true
is_of_m _ = false
