use Rattle.std.proofs.Common.{◌≡◌, ℕ, pos, Bool, true, false, ◌&&◌, if◌then◌else◌, List, [], ◌∷◌, Option, Some, cond, subst, rules}
use Rattle.std.specs.List.{find}
use Rattle.rv_decode.specs.declared.ins.Ins.{Ins}
use Rattle.rv_decode.specs.declared.ins.Ins.TheVariants as ins
use Rattle.rv_decode.specs.declared.ins.Isa.TheVariants as isas
use Rattle.rv_decode.specs.Table.{Row, has_encoding, has_m, in_format, instruction, key_of, made, row_of, table}
use Rattle.rv_decode.specs.Word.{field}

-- the fields of a word that is a shift by an immediate, where the instruction is one
abbrev Places : ℕ → Ins → Type 0
Places w (ins.Slli rd rs1 imm) = (field w 11 7 ≡ rd) × (field w 19 15 ≡ rs1) × (pos (field w 24 20) ≡ imm)
Places w (ins.Srli rd rs1 imm) = (field w 11 7 ≡ rd) × (field w 19 15 ≡ rs1) × (pos (field w 24 20) ≡ imm)
Places w (ins.Srai rd rs1 imm) = (field w 11 7 ≡ rd) × (field w 19 15 ≡ rs1) × (pos (field w 24 20) ≡ imm)
Places w _ = Unit {0}

abbrev EachPlaces : ℕ → List Row → Type 0
EachPlaces w [] = Unit {0}
EachPlaces w (row ∷ rows) = Places w (in_format w row.format) × EachPlaces w rows

choice : (w : ℕ) (b : Bool) (row : Row) (o : Option Row) → Places w (in_format w row.format) → Places w (made w o) → Places w (made w (cond b (Some row) o))
choice w true row o p q = p
choice w false row o p q = q

found : (w : ℕ) (test : Row → Bool) (rows : List Row) → EachPlaces w rows → Places w (made w (find test rows))
found w test [] e = tt
found w test (row ∷ rows) e = choice w (test row) row (find test rows) e.0 (found w test rows e.1)

places_of : (w : ℕ) → Places w (instruction isas.Im w)
unfolding row_of
places_of w = found w (λ row. has_encoding (key_of w) row.encoding && (if row.needs_m then has_m isas.Im else true)) table (search rules)

-- a word that is the instruction has its fields
pub places_are : (w : ℕ) (i : Ins) → instruction isas.Im w ≡ i → Places w i
places_are w i e = subst (λ j. Places w j) e (places_of w)
