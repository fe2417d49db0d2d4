-- Where a block goes on.
use Rattle.std.specs.Prelude.{ℕ, ◌+◌, ◌%◌, ◌^◌, List, [], ◌∷◌}
use Rattle.std.specs.Option.{option_to_list}
use Rattle.rv_decode.specs.declared.ins.Ins.{Ins}
use Rattle.rv_decode.specs.declared.ins.Ins.TheVariants as ins
use Rattle.plain_machine.specs.Step.{offset}
use Rattle.fragment.specs.declared.Exit.{Exit}
use Rattle.fragment.specs.declared.Exit.TheVariants.{Direct, Indirect, Asks, Stop}
use Rattle.fragment.specs.declared.exits.Exits.{Exits}

-- Where a block goes on that ends with this instruction, the address of which is p, and n the next.
abbrev pub exits_at : ℕ → ℕ → Ins → List Exit
exits_at p n (ins.Jal rd imm) = Direct (offset p imm) ∷ []
exits_at p n (ins.Beq rs1 rs2 imm) = Direct (offset p imm) ∷ Direct n ∷ []
exits_at p n (ins.Bne rs1 rs2 imm) = Direct (offset p imm) ∷ Direct n ∷ []
exits_at p n (ins.Blt rs1 rs2 imm) = Direct (offset p imm) ∷ Direct n ∷ []
exits_at p n (ins.Bge rs1 rs2 imm) = Direct (offset p imm) ∷ Direct n ∷ []
exits_at p n (ins.Bltu rs1 rs2 imm) = Direct (offset p imm) ∷ Direct n ∷ []
exits_at p n (ins.Bgeu rs1 rs2 imm) = Direct (offset p imm) ∷ Direct n ∷ []
exits_at p n (ins.Jalr rd rs1 imm) = Indirect ∷ []
exits_at p n ins.Ecall = Asks n ∷ []
exits_at p n ins.Ebreak = Stop ∷ []
exits_at p n ins.None = Stop ∷ []
exits_at p n _ = Direct n ∷ []

abbrev pub exits_of : ℕ → Ins → List Exit
exits_of p i = exits_at p ((p + 4) % 2 ^ 32) i

-- one or two exits, as a list
abbrev pub list_of : Exits → List Exit
list_of exits = exits.first ∷ option_to_list exits.second
