-- A fresh block has what the format asks of a fragment.
use Rattle.std.proofs.Common.{◌≡◌, ◌⊎◌, ℕ, zero, suc, ◌+◌, ◌-◌, ◌*◌, ◌%◌, ◌^◌, ◌<◌, ◌≤◌, List, [], ◌∷◌, ◌++◌, length, get_or, Option, Some, None, refl, sym, ap, subst, ◌∙◌, arith, length-append, inl, inr}
use Rattle.std.specs.List.{AllByRecursion}
use Rattle.cc_base.specs.Image.{Code}
use Rattle.rv_decode.specs.declared.ins.Isa.{Isa}
use Rattle.rv_decode.specs.declared.ins.Ins.{Ins}
use Rattle.rv_decode.specs.declared.ins.Ins.TheVariants as ins
use Rattle.plain_machine.specs.Alu.{word}
use Rattle.probe_tools.specs.declared.tool.Tool.{Tool}
use Rattle.probe_tools.specs.declared.probe.ProbeKind.{ProbeKind}
use Rattle.fragment.specs.declared.Exit.{Exit}
use Rattle.fragment.specs.declared.Probe.{Probe}
use Rattle.fragment.specs.Parts.{Parts}
use Rattle.fragment.specs.Build.{words_at, size_at, IsBuilt}
use Rattle.fragment.specs.Exits.{exits_of}
use Rattle.fragment.specs.Probing.{probe_at, placed, probes_before, probes_of}
use Rattle.fragment.proofs.Values.{length_words, value-built}
use Rattle.fragment.proofs.Testing.{fresh_parts}
use Rattle.fragment.proofs.Places.{before-none, before-more}
use Rattle.unit_set.specs.Slot.{Slot, IsSlot}
use Rattle.unit_set.specs.Held.{IsFreshFor}
use Rattle.unit_format.specs.Text.{HoldsWords, IsProbe, IsExit}
use Rattle.unit_format.specs.Units.{IsSmall}
use Rattle.unit_format.proofs.Words.{is_within}

pub record IsBlock (image : Code) (f : Parts) : Type 0 where
  pub aligned : f.address % 4 ≡ 0
  pub within : HoldsWords image f.address (length f.words)
  pub words : f.words ≡ words_at image f.address (length f.words)
  pub few_probes : length f.probes ≤ 64
  pub probes : AllByRecursion (IsProbe (length f.words)) f.probes
  pub exits : (length f.exits ≡ 1) ⊎ (length f.exits ≡ 2)
  pub targets : AllByRecursion IsExit f.exits

-- ---- exits

record ExitsFit (exits : List Exit) : Type 0 where
  count : (length exits ≡ 1) ⊎ (length exits ≡ 2)
  targets : AllByRecursion IsExit exits

below : (x : ℕ) → x % 2 ^ 32 < 2 ^ 32
below x = omega arith

exits_fit : (p : ℕ) (i : Ins) → ExitsFit (exits_of p i)
exits_fit p (ins.Lui rd imm) = record { count = inl refl; targets = (below (p + 4), tt) }
exits_fit p (ins.Auipc rd imm) = record { count = inl refl; targets = (below (p + 4), tt) }
exits_fit p (ins.Jal rd imm) = record { count = inl refl; targets = (below (p + word imm), tt) }
exits_fit p (ins.Jalr rd rs1 imm) = record { count = inl refl; targets = (tt, tt) }
exits_fit p (ins.Beq rs1 rs2 imm) = record { count = inr refl; targets = (below (p + word imm), (below (p + 4), tt)) }
exits_fit p (ins.Bne rs1 rs2 imm) = record { count = inr refl; targets = (below (p + word imm), (below (p + 4), tt)) }
exits_fit p (ins.Blt rs1 rs2 imm) = record { count = inr refl; targets = (below (p + word imm), (below (p + 4), tt)) }
exits_fit p (ins.Bge rs1 rs2 imm) = record { count = inr refl; targets = (below (p + word imm), (below (p + 4), tt)) }
exits_fit p (ins.Bltu rs1 rs2 imm) = record { count = inr refl; targets = (below (p + word imm), (below (p + 4), tt)) }
exits_fit p (ins.Bgeu rs1 rs2 imm) = record { count = inr refl; targets = (below (p + word imm), (below (p + 4), tt)) }
exits_fit p (ins.Lb rd rs1 imm) = record { count = inl refl; targets = (below (p + 4), tt) }
exits_fit p (ins.Lh rd rs1 imm) = record { count = inl refl; targets = (below (p + 4), tt) }
exits_fit p (ins.Lw rd rs1 imm) = record { count = inl refl; targets = (below (p + 4), tt) }
exits_fit p (ins.Lbu rd rs1 imm) = record { count = inl refl; targets = (below (p + 4), tt) }
exits_fit p (ins.Lhu rd rs1 imm) = record { count = inl refl; targets = (below (p + 4), tt) }
exits_fit p (ins.Sb rs1 rs2 imm) = record { count = inl refl; targets = (below (p + 4), tt) }
exits_fit p (ins.Sh rs1 rs2 imm) = record { count = inl refl; targets = (below (p + 4), tt) }
exits_fit p (ins.Sw rs1 rs2 imm) = record { count = inl refl; targets = (below (p + 4), tt) }
exits_fit p (ins.Addi rd rs1 imm) = record { count = inl refl; targets = (below (p + 4), tt) }
exits_fit p (ins.Slti rd rs1 imm) = record { count = inl refl; targets = (below (p + 4), tt) }
exits_fit p (ins.Sltiu rd rs1 imm) = record { count = inl refl; targets = (below (p + 4), tt) }
exits_fit p (ins.Xori rd rs1 imm) = record { count = inl refl; targets = (below (p + 4), tt) }
exits_fit p (ins.Ori rd rs1 imm) = record { count = inl refl; targets = (below (p + 4), tt) }
exits_fit p (ins.Andi rd rs1 imm) = record { count = inl refl; targets = (below (p + 4), tt) }
exits_fit p (ins.Slli rd rs1 imm) = record { count = inl refl; targets = (below (p + 4), tt) }
exits_fit p (ins.Srli rd rs1 imm) = record { count = inl refl; targets = (below (p + 4), tt) }
exits_fit p (ins.Srai rd rs1 imm) = record { count = inl refl; targets = (below (p + 4), tt) }
exits_fit p (ins.Add rd rs1 rs2) = record { count = inl refl; targets = (below (p + 4), tt) }
exits_fit p (ins.Sub rd rs1 rs2) = record { count = inl refl; targets = (below (p + 4), tt) }
exits_fit p (ins.Sll rd rs1 rs2) = record { count = inl refl; targets = (below (p + 4), tt) }
exits_fit p (ins.Slt rd rs1 rs2) = record { count = inl refl; targets = (below (p + 4), tt) }
exits_fit p (ins.Sltu rd rs1 rs2) = record { count = inl refl; targets = (below (p + 4), tt) }
exits_fit p (ins.Xor rd rs1 rs2) = record { count = inl refl; targets = (below (p + 4), tt) }
exits_fit p (ins.Srl rd rs1 rs2) = record { count = inl refl; targets = (below (p + 4), tt) }
exits_fit p (ins.Sra rd rs1 rs2) = record { count = inl refl; targets = (below (p + 4), tt) }
exits_fit p (ins.Or rd rs1 rs2) = record { count = inl refl; targets = (below (p + 4), tt) }
exits_fit p (ins.And rd rs1 rs2) = record { count = inl refl; targets = (below (p + 4), tt) }
exits_fit p (ins.Mul rd rs1 rs2) = record { count = inl refl; targets = (below (p + 4), tt) }
exits_fit p (ins.Mulh rd rs1 rs2) = record { count = inl refl; targets = (below (p + 4), tt) }
exits_fit p (ins.Mulhsu rd rs1 rs2) = record { count = inl refl; targets = (below (p + 4), tt) }
exits_fit p (ins.Mulhu rd rs1 rs2) = record { count = inl refl; targets = (below (p + 4), tt) }
exits_fit p (ins.Div rd rs1 rs2) = record { count = inl refl; targets = (below (p + 4), tt) }
exits_fit p (ins.Divu rd rs1 rs2) = record { count = inl refl; targets = (below (p + 4), tt) }
exits_fit p (ins.Rem rd rs1 rs2) = record { count = inl refl; targets = (below (p + 4), tt) }
exits_fit p (ins.Remu rd rs1 rs2) = record { count = inl refl; targets = (below (p + 4), tt) }
exits_fit p ins.Fence = record { count = inl refl; targets = (below (p + 4), tt) }
exits_fit p ins.FenceI = record { count = inl refl; targets = (below (p + 4), tt) }
exits_fit p ins.Ecall = record { count = inl refl; targets = (below (p + 4), tt) }
exits_fit p ins.Ebreak = record { count = inl refl; targets = (tt, tt) }
exits_fit p ins.None = record { count = inl refl; targets = (tt, tt) }

all_fit : (exits : List Exit) (p : ℕ) (i : Ins) → exits ≡ exits_of p i → ExitsFit exits
all_fit exits p i e = rw e (exits_fit p i)

-- ---- probes

-- a list of few probes, each at a place below n
record ProbesFit (n most : ℕ) (probes : List Probe) : Type 0 where
  few : length probes ≤ most
  all : AllByRecursion (IsProbe n) probes

with_none : (n most : ℕ) (probes : List Probe) → ProbesFit n most probes → ProbesFit n (most + 1) (probes ++ [])
with_none n most [] fit = record { few = omega arith; all = tt }
with_none n most (p ∷ probes) fit =
    let rest = with_none n (length probes) probes (record { few = omega arith; all = fit.all.1 }) in
    record { few = omega (arith, fit.few, length-append probes []); all = (fit.all.0, rest.all) }

with_one : (n most : ℕ) (probes : List Probe) (probe : Probe) → probe.place < n → ProbesFit n most probes → ProbesFit n (most + 1) (probes ++ probe ∷ [])
with_one n most [] probe lt fit = record { few = omega arith; all = (lt, tt) }
with_one n most (p ∷ probes) probe lt fit =
    let rest = with_one n (length probes) probes probe lt (record { few = omega arith; all = fit.all.1 }) in
    record { few = omega (arith, fit.few, length-append probes (probe ∷ [])); all = (fit.all.0, rest.all) }

with_placed : (n most i : ℕ) (probes : List Probe) (o : Option ProbeKind) → i < n → ProbesFit n most probes → ProbesFit n (most + 1) (probes ++ placed i o)
with_placed n most i probes None lt fit = with_none n most probes fit
with_placed n most i probes (Some kind) lt fit = with_one n most probes (record { place = i; kind = kind }) lt fit

none_fits : (n : ℕ) (probes : List Probe) → probes ≡ [] → ProbesFit n 0 probes
none_fits n probes e = rw e (record { few = omega arith; all = tt })

before_fit : (tool : Tool) (isa : Isa) (words : List ℕ) (i : ℕ) → i ≤ length words → ProbesFit (length words) i (probes_before tool isa words i)
before_fit tool isa words zero le = none_fits (length words) (probes_before tool isa words 0) (before-none tool isa words)
before_fit tool isa words (suc i) le =
    let next : i + 1 ≡ suc i = omega arith in
    let more = with_placed (length words) i i (probes_before tool isa words i) (probe_at tool isa words i) (omega arith) (before_fit tool isa words i (omega arith)) in
    subst (λ k. ProbesFit (length words) k (probes_before tool isa words k)) next (subst (ProbesFit (length words) (i + 1)) (sym (before-more tool isa words i)) more)

probes_fit : (tool : Tool) (isa : Isa) (words : List ℕ) (probes : List Probe) → probes ≡ probes_of tool isa words → ProbesFit (length words) (length words) probes
probes_fit tool isa words probes e = rw e (before_fit tool isa words (length words) (omega arith))

-- ---- the block

pub is_block : (slot : Slot) (image : Code) (f : Parts) → IsSlot slot → IsFreshFor slot image f → IsBlock image f
is_block slot image f named fresh =
    let is : IsBuilt image slot.isa slot.tool slot.max f = (value-built image f.address slot.isa slot.tool slot.max f (omega (arith, named.some)) fresh).0 in
    let n = size_at image f.address slot.isa slot.max in
    let parts = fresh_parts image slot.isa slot.tool slot.max n f refl fresh in
    let long : n ≡ length f.words = sym (ap length parts.words ∙ length_words image f.address n) in
    let exits = all_fit f.exits _ _ is.exits in
    let probes = probes_fit slot.tool slot.isa f.words f.probes is.probes in
    let first = is_within image (f.address + 4 * 0) (get_or f.words 0 0) (is.words 0 is.not_empty) in
    let m = length f.words - 1 in
    let end = is_within image (f.address + 4 * m) (get_or f.words m 0) (is.words m (omega (arith, is.not_empty))) in
    record {
      aligned = is.aligned;
      within = record { some = omega (arith, is.not_empty); at_most = omega (arith, is.at_most, named.most); from = omega (arith, first.0); to = omega (arith, end.1, is.not_empty) };
      words = parts.words ∙ ap (words_at image f.address) long;
      few_probes = omega (arith, probes.few, is.at_most, named.most);
      probes = probes.all;
      exits = exits.count;
      targets = exits.targets;
    }

one_or_two : (n : ℕ) → (n ≡ 1) ⊎ (n ≡ 2) → n ≤ 2
one_or_two n (inl a) = omega arith
one_or_two n (inr b) = omega arith

pub is_small : (slot : Slot) (image : Code) (f : Parts) → IsSlot slot → IsFreshFor slot image f → IsSmall f
is_small slot image f named fresh =
    let is = is_block slot image f named fresh in
    record { words = is.within.at_most; probes = is.few_probes; exits = one_or_two (length f.exits) is.exits }
