-- The blocks of a unit, as an attach asks for them.
use Rattle.std.proofs.Common.{◌≡◌, ◌⊎◌, ℕ, zero, suc, ◌+◌, ◌-◌, ◌*◌, ◌<◌, ◌≤◌, ◌==◌, ◌||◌, Bool, true, false, List, [], ◌∷◌, length, get_or, Option, Some, None, refl, sym, ap, subst, ◌∙◌, arith}
use Rattle.std.specs.Prelude.{is_some}
use Rattle.std.specs.List.{All, list_any}
use Rattle.std.proofs.lemmas.Bool.Decides.{nat_tests}
use Rattle.std.proofs.lemmas.List.Elements.{All-head, All-tail}
use Rattle.cc_base.specs.Image.{Code, FitsSegment}
use Rattle.cc_base.specs.Span.{Range}
use Rattle.rv_decode.specs.declared.ins.Ins.{Ins}
use Rattle.rv_decode.specs.declared.ins.Ins.TheVariants as ins
use Rattle.fragment.specs.Parts.{Parts}
use Rattle.fragment.specs.declared.Exit.{Exit}
use Rattle.fragment.specs.Build.{has_word, IsBuilt}
use Rattle.fragment.specs.Exits.{exits_of}
use Rattle.fragment.proofs.Values.{has_of, value-built}
use Rattle.unit_set.specs.Slot.{Slot, IsSlot}
use Rattle.unit_set.specs.Held.{IsFreshFor, addresses, place_in}
use Rattle.unit_set.specs.Sets as sets
use Rattle.unit_set.specs.Sets.{IsRising}
use Rattle.merge_pass.proofs.Members.{placed}
use Rattle.code_book.specs.Book.{IsShort}
use Rattle.code_book.specs.Whole.{AreBlocks, IsInside, has, region_of}

few : (p : ℕ) (i : Ins) → length (exits_of p i) ≤ 2
few p (ins.Lui rd imm) = omega arith
few p (ins.Auipc rd imm) = omega arith
few p (ins.Jal rd imm) = omega arith
few p (ins.Jalr rd rs1 imm) = omega arith
few p (ins.Lb rd rs1 imm) = omega arith
few p (ins.Lh rd rs1 imm) = omega arith
few p (ins.Lw rd rs1 imm) = omega arith
few p (ins.Lbu rd rs1 imm) = omega arith
few p (ins.Lhu rd rs1 imm) = omega arith
few p (ins.Sb rs1 rs2 imm) = omega arith
few p (ins.Sh rs1 rs2 imm) = omega arith
few p (ins.Sw rs1 rs2 imm) = omega arith
few p (ins.Addi rd rs1 imm) = omega arith
few p (ins.Slti rd rs1 imm) = omega arith
few p (ins.Sltiu rd rs1 imm) = omega arith
few p (ins.Xori rd rs1 imm) = omega arith
few p (ins.Ori rd rs1 imm) = omega arith
few p (ins.Andi rd rs1 imm) = omega arith
few p (ins.Slli rd rs1 imm) = omega arith
few p (ins.Srli rd rs1 imm) = omega arith
few p (ins.Srai rd rs1 imm) = omega arith
few p (ins.Add rd rs1 rs2) = omega arith
few p (ins.Sub rd rs1 rs2) = omega arith
few p (ins.Sll rd rs1 rs2) = omega arith
few p (ins.Slt rd rs1 rs2) = omega arith
few p (ins.Sltu rd rs1 rs2) = omega arith
few p (ins.Xor rd rs1 rs2) = omega arith
few p (ins.Srl rd rs1 rs2) = omega arith
few p (ins.Sra rd rs1 rs2) = omega arith
few p (ins.Or rd rs1 rs2) = omega arith
few p (ins.And rd rs1 rs2) = omega arith
few p (ins.Mul rd rs1 rs2) = omega arith
few p (ins.Mulh rd rs1 rs2) = omega arith
few p (ins.Mulhsu rd rs1 rs2) = omega arith
few p (ins.Mulhu rd rs1 rs2) = omega arith
few p (ins.Div rd rs1 rs2) = omega arith
few p (ins.Divu rd rs1 rs2) = omega arith
few p (ins.Rem rd rs1 rs2) = omega arith
few p (ins.Remu rd rs1 rs2) = omega arith
few p (ins.Beq rs1 rs2 imm) = omega arith
few p (ins.Bne rs1 rs2 imm) = omega arith
few p (ins.Blt rs1 rs2 imm) = omega arith
few p (ins.Bge rs1 rs2 imm) = omega arith
few p (ins.Bltu rs1 rs2 imm) = omega arith
few p (ins.Bgeu rs1 rs2 imm) = omega arith
few p ins.Fence = omega arith
few p ins.FenceI = omega arith
few p ins.Ecall = omega arith
few p ins.Ebreak = omega arith
few p ins.None = omega arith

-- a word that is in a code lies between its ends
lies : (code : Code) (x : ℕ) → has_word code x ≡ true → (code.start ≤ x) × (x + 4 ≤ code.start + length code.bytes)
lies code x is = (grind (arith, nat_tests), grind (arith, nat_tests))

is_inside : (slot : Slot) (image : Code) (f : Parts) → IsSlot slot → FitsSegment image.start image.bytes → IsFreshFor slot image f → IsInside (region_of image) f
is_inside slot image f named fits fresh =
    let is : IsBuilt image slot.isa slot.tool slot.max f = (value-built image f.address slot.isa slot.tool slot.max f (omega (arith, named.some)) fresh).0 in
    let first = lies image (f.address + 4 * 0) (has_of image (f.address + 4 * 0) (is.words 0 is.not_empty)) in
    let m = length f.words - 1 in
    let end = lies image (f.address + 4 * m) (has_of image (f.address + 4 * m) (is.words m (omega (arith, is.not_empty)))) in
    record {
      from = omega (arith, first.0);
      below = omega (arith, first.1);
      short = record { some = is.not_empty; few = omega (arith, is.at_most, named.most); ends = omega (arith, end.1, fits.2, is.not_empty) };
      exits = subst (λ (es : List Exit). length es ≤ 2) (sym is.exits) (few _ _);
    }

from : (slot : Slot) (image : Code) (least : ℕ) (fs : List Parts) → IsSlot slot → FitsSegment image.start image.bytes → All (IsFreshFor slot image) fs → IsRising (addresses fs)
    → ((i : ℕ) → i < length (addresses fs) → least ≤ get_or (addresses fs) i 0) → AreBlocks (region_of image) least fs
from slot image least [] named fits built rises above = tt
from slot image least (f ∷ fs) named fits built rises above = (
  above 0 (omega arith),
  is_inside slot image f named fits (All-head (IsFreshFor slot image) f fs built),
  from slot image (f.address + 1) fs named fits (All-tail (IsFreshFor slot image) f fs built) (λ i j lt in_fs. rises (suc i) (suc j) (omega arith) (omega (arith, in_fs)))
      (λ i in_fs. let h : f.address < get_or (addresses fs) i 0 = rises 0 (suc i) (omega arith) (omega (arith, in_fs)) in omega (arith, h)),
)

pub are-blocks : (slot : Slot) (image : Code) (fs : List Parts) → IsSlot slot → FitsSegment image.start image.bytes → All (IsFreshFor slot image) fs → IsRising (addresses fs) → AreBlocks (region_of image) 0 fs
are-blocks slot image fs named fits built rises = from slot image 0 fs named fits built rises (λ i in_fs. omega arith)

-- ---- what it has

same_has : (fs : List Parts) (a : ℕ) → sets.has a (addresses fs) ≡ has fs a
same_has [] a = refl
same_has (f ∷ fs) a = ap (λ b. (f.address == a) || b) (same_has fs a)

pub has-placed : (fs : List Parts) (a : ℕ) → is_some (place_in fs a) ≡ has fs a
has-placed fs a = placed a (addresses fs) ∙ same_has fs a
