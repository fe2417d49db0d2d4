use Rattle.std.proofs.Common.{◌≡◌, ℕ, Option, Some, None, IfNone, ◌∙◌, w32, to_z, of_z, rules}
use Rattle.rv_decode.specs.declared.ins.Ins.TheVariants as ins
use Rattle.rv_asm.proofs.Shifts.{places_are}
use Rattle.rv_asm.proofs.assembler.asm.Goals as goal

if_none : {P Q : Type 0} (o : Option ℕ) → IfNone o P → (P → Q) → IfNone o Q
if_none (Some n) p f = tt
if_none None p f = f p

pub returns-in-Slli-clause-none : goal.returns-in-Slli-clause-none
returns-in-Slli-clause-none c =
    if_none c.shift_type.result c.shift_type.ensures.none
    (λ p word below e.
    let same : to_z w32 (of_z w32 c.in-Slli.imm) ≡ c.in-Slli.imm = search rules in
    p word (rw same (places_are word (ins.Slli c.in-Slli.rd c.in-Slli.rs1 c.in-Slli.imm) (e ∙ c.in-Slli.is))))

pub returns-in-Srli-clause-none : goal.returns-in-Srli-clause-none
returns-in-Srli-clause-none c =
    if_none c.shift_type-in-Srli.result c.shift_type-in-Srli.ensures.none
    (λ p word below e.
    let same : to_z w32 (of_z w32 c.in-Srli.imm) ≡ c.in-Srli.imm = search rules in
    p word (rw same (places_are word (ins.Srli c.in-Srli.rd c.in-Srli.rs1 c.in-Srli.imm) (e ∙ c.in-Srli.is))))

pub returns-in-Srai-clause-none : goal.returns-in-Srai-clause-none
returns-in-Srai-clause-none c =
    if_none c.shift_type-in-Srai.result c.shift_type-in-Srai.ensures.none
    (λ p word below e.
    let same : to_z w32 (of_z w32 c.in-Srai.imm) ≡ c.in-Srai.imm = search rules in
    p word (rw same (places_are word (ins.Srai c.in-Srai.rd c.in-Srai.rs1 c.in-Srai.imm) (e ∙ c.in-Srai.is))))
