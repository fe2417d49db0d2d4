-- Which probes stand in a block, and what they see.
use Rattle.std.proofs.Common.{◌≡◌, ℕ, ◌+◌, ◌<◌, ◌≤◌, ◌==◌, zero, suc, Bool, true, false, if◌then◌else◌, List, [], ◌∷◌, ◌++◌, length, slice_index, get_or, length-append, Option, Some, None, Ok, refl, sym, ◌∙◌, ap, subst, arith, inl, inr}
use Rattle.std.specs.Prelude.{option_map}
use Rattle.std.specs.Option.{option_to_list}
use Rattle.std.proofs.lemmas.Bool.{cases_lt}
use Rattle.std.proofs.lemmas.Bool.Decides.{nat_tests}
use Rattle.cc_base.specs.Image.{Code}
use Rattle.rv_decode.specs.declared.ins.Isa.{Isa}
use Rattle.rv_decode.specs.declared.ins.Ins.{Ins}
use Rattle.rv_decode.specs.declared.ins.Ins.TheVariants as ins
use Rattle.rv_decode.specs.Table.{instruction}
use Rattle.probe_tools.specs.declared.tool.Tool.{Tool}
use Rattle.probe_tools.specs.declared.tool.Tool.TheVariants as tools
use Rattle.probe_tools.specs.declared.event.Event.TheVariants as event
use Rattle.probe_tools.specs.declared.probe.ProbeKind.{ProbeKind}
use Rattle.probe_tools.specs.declared.probe.ProbeKind.TheVariants as kinds
use Rattle.probe_tools.specs.declared.probe.Class.TheVariants as classes
use Rattle.probe_tools.specs.Probes.{probe_of}
use Rattle.plain_machine.specs.declared.cpu.Cpu.{Cpu}
use Rattle.plain_machine.specs.Step.{target_of}
use Rattle.plain_machine.specs.Cut.{ends_block}
use Rattle.plain_machine.specs.Machine.{State}
use Rattle.plain_machine.specs.Memory.{fetched}
use Rattle.plain_machine.specs.Events.{seen, seen_at, seen_before}
use Rattle.fragment.specs.Parts.{Parts}
use Rattle.fragment.specs.declared.Probe.{Probe}
use Rattle.plain_machine.specs.Events.{is_link}
use Rattle.fragment.specs.Classes.{class_of}
use Rattle.fragment.specs.Build.{IsBuilt}
use Rattle.fragment.specs.Probing.{probe_at, probes_before, probes_of, placed}
use Rattle.fragment.proofs.Places.{next_probe, no_probe, before-more}
use Rattle.engine.specs.Words.{is_first}
use Rattle.engine.specs.Seeing.{probe_count, seen_with}

-- ---- the next probe of a block

-- it stands at the place: it is the one there
there-is : (tool : Tool) (isa : Isa) (words : List ℕ) (place next : ℕ) (d : Probe) (o : Option ProbeKind) → probe_at tool isa words place ≡ o → place < length words →
    next ≡ length (probes_before tool isa words place) → next < length (probes_of tool isa words) → (get_or (probes_of tool isa words) next d).place ≡ place →
    Some (get_or (probes_of tool isa words) next d).kind ≡ o
there-is tool isa words place next d None is lt at some here =
    let far = no_probe tool isa words place d lt is (subst (λ k. k < length (probes_of tool isa words)) at some) in
    let same : (get_or (probes_of tool isa words) (length (probes_before tool isa words place)) d).place ≡ place = ap (λ k. (get_or (probes_of tool isa words) k d).place) (sym at) ∙ here in
    absurd (omega arith)
there-is tool isa words place next d (Some kind) is lt at some here =
    let found = next_probe tool isa words place kind lt is in
    ap (λ k. Some (get_or (probes_of tool isa words) k d).kind) at ∙ ap (λ p. Some p.kind) (found.here d)

-- it stands elsewhere: there is none
there-is-none : (tool : Tool) (isa : Isa) (words : List ℕ) (place next : ℕ) (d : Probe) (o : Option ProbeKind) → probe_at tool isa words place ≡ o → place < length words →
    next ≡ length (probes_before tool isa words place) → ((get_or (probes_of tool isa words) next d).place ≡ place → ⊥) → None ≡ o
there-is-none tool isa words place next d None is lt at apart = refl
there-is-none tool isa words place next d (Some kind) is lt at apart =
    let found = next_probe tool isa words place kind lt is in
    absurd (apart (ap (λ k. (get_or (probes_of tool isa words) k d).place) at ∙ ap (λ p. p.place) (found.here d)))

-- all stand before the place
none-left : (tool : Tool) (isa : Isa) (words : List ℕ) (place next : ℕ) (o : Option ProbeKind) → probe_at tool isa words place ≡ o → place < length words →
    next ≡ length (probes_before tool isa words place) → length (probes_of tool isa words) ≤ next → None ≡ o
none-left tool isa words place next None is lt at past = refl
none-left tool isa words place next (Some kind) is lt at past =
    let found = next_probe tool isa words place kind lt is in
    let within = found.within in absurd (omega arith)

pub kind-there : (tool : Tool) (isa : Isa) (words : List ℕ) (probes : List Probe) (place next : ℕ) (d : Probe) → probes ≡ probes_of tool isa words → place < length words →
    next ≡ length (probes_before tool isa words place) → next < length probes → (get_or probes next d).place ≡ place → Some (get_or probes next d).kind ≡ probe_at tool isa words place
kind-there tool isa words probes place next d all lt at some here =
    ap (λ ps. Some (get_or ps next d).kind) all
    ∙ there-is tool isa words place next d (probe_at tool isa words place) refl lt at (subst (λ ps. next < length ps) all some) (ap (λ ps. (get_or ps next d).place) (sym all) ∙ here)

pub kind-elsewhere : (tool : Tool) (isa : Isa) (words : List ℕ) (probes : List Probe) (place next : ℕ) (d : Probe) → probes ≡ probes_of tool isa words → place < length words →
    next ≡ length (probes_before tool isa words place) → ((get_or probes next d).place ≡ place → ⊥) → None ≡ probe_at tool isa words place
kind-elsewhere tool isa words probes place next d all lt at apart =
    there-is-none tool isa words place next d (probe_at tool isa words place) refl lt at (λ e. apart (ap (λ ps. (get_or ps next d).place) all ∙ e))

pub kind-nowhere : (tool : Tool) (isa : Isa) (words : List ℕ) (probes : List Probe) (place next : ℕ) → probes ≡ probes_of tool isa words → place < length words →
    next ≡ length (probes_before tool isa words place) → length probes ≤ next → None ≡ probe_at tool isa words place
kind-nowhere tool isa words probes place next all lt at past =
    none-left tool isa words place next (probe_at tool isa words place) refl lt at (subst (λ ps. length ps ≤ next) all past)

-- ---- how many stand before the next place

pub one-at-most : (o : Option ProbeKind) → probe_count o ≤ 1
one-at-most None = omega arith
one-at-most (Some kind) = omega arith

length-placed : (front : List Probe) (i : ℕ) (o : Option ProbeKind) → length (front ++ placed i o) ≡ length front + probe_count o
length-placed front i None = length-append front (placed i None)
length-placed front i (Some kind) = length-append front (placed i (Some kind))

pub next-more : (tool : Tool) (isa : Isa) (words : List ℕ) (place next : ℕ) (o : Option ProbeKind) → next ≡ length (probes_before tool isa words place) → o ≡ probe_at tool isa words place →
    next + probe_count o ≡ length (probes_before tool isa words (place + 1))
next-more tool isa words place next o at is =
    ap (λ k. k + probe_count o) at
    ∙ ap (λ x. length (probes_before tool isa words place) + probe_count x) is
    ∙ sym (length-placed (probes_before tool isa words place) place (probe_at tool isa words place))
    ∙ ap length (sym (before-more tool isa words place))

-- ---- what is seen at a word

-- a block's begin is at place 0
sees-begin : (cpu : Cpu) (i : Ins) (place : ℕ) → (if is_first place then event.Block cpu.pc ∷ [] else []) ≡ seen_with (if place == 0 then Some kinds.Block else None) cpu i
sees-begin cpu i zero = refl
sees-begin cpu i (suc place) = let later : (suc place == 0) ≡ false = grind (arith, nat_tests) in rw later refl

-- a jump is a call where it links
sees-jump : (cpu : Cpu) (i : Ins) (place : ℕ) (last link : Bool) → last ≡ true →
    (if link then option_to_list (option_map (event.Call cpu.pc) (target_of i cpu)) else []) ≡ seen_with (probe_of tools.Calls (if link then classes.Call else classes.Jump) place last) cpu i
sees-jump cpu i place last true is = rw is refl
sees-jump cpu i place last false is = refl

links-nothing : (cpu : Cpu) (i : Ins) (place : ℕ) (last link : Bool) → [] ≡ seen_with (probe_of tools.Memory (if link then classes.Call else classes.Jump) place last) cpu i
links-nothing cpu i place last true = refl
links-nothing cpu i place last false = refl

-- where an instruction that ends a block is the last of its block, its probe sees what the tool sees
pub seen-by-probe : (tool : Tool) (cpu : Cpu) (i : Ins) (place : ℕ) (last : Bool) → (ends_block i ≡ true → last ≡ true) →
    seen_at tool cpu (is_first place) i ≡ seen_with (probe_of tool (class_of i) place last) cpu i
seen-by-probe tools.Blocks cpu i place last is = sees-begin cpu i place
seen-by-probe tools.Calls cpu (ins.Jal rd imm) place last is = sees-jump cpu (ins.Jal rd imm) place last (is_link rd) (is refl)
seen-by-probe tools.Calls cpu (ins.Jalr rd rs1 imm) place last is = sees-jump cpu (ins.Jalr rd rs1 imm) place last (is_link rd) (is refl)
seen-by-probe tools.Calls cpu _ place last is = refl
seen-by-probe tools.Memory cpu (ins.Jal rd imm) place last is = links-nothing cpu (ins.Jal rd imm) place last (is_link rd)
seen-by-probe tools.Memory cpu (ins.Jalr rd rs1 imm) place last is = links-nothing cpu (ins.Jalr rd rs1 imm) place last (is_link rd)
seen-by-probe tools.Memory cpu _ place last is = refl

-- the last word alone may end its block
last-ends : (code : Code) (isa : Isa) (tool : Tool) (max : ℕ) (block : Parts) (i : ℕ) → IsBuilt code isa tool max block → i < length block.words →
    ends_block (instruction isa (slice_index block.words i)) ≡ true → (i + 1 == length block.words) ≡ true
last-ends code isa tool max block i built lt ends = elim (cases_lt (i + 1) (length block.words)) [
  | inl more ↦ let inner = built.inner i more in absurd (cc)
  | inr no_more ↦ let same : i + 1 ≡ length block.words = omega arith in grind (arith, nat_tests)
]

-- what the tool sees at word i of a block that is built
pub sees-word : (code : Code) (isa : Isa) (tool : Tool) (max : ℕ) (block : Parts) (i word : ℕ) (s : State) → IsBuilt code isa tool max block → i < length block.words → word ≡ slice_index block.words i →
    s.cpu.isa ≡ isa → fetched s.memory s.cpu.pc ≡ Ok word →
    seen tool (s, is_first i) ≡ seen_with (probe_at tool isa block.words i) s.cpu (instruction s.cpu.isa word)
sees-word code isa tool max block i word s built lt is same fetch =
    let I : Ins = instruction s.cpu.isa word in
    let named : I ≡ instruction isa (slice_index block.words i) = ap (λ a. instruction a word) same ∙ ap (instruction isa) is in
    ap (seen_before tool s.cpu (is_first i)) fetch
    ∙ seen-by-probe tool s.cpu I i (i + 1 == length block.words) (λ ends. last-ends code isa tool max block i built lt (ap ends_block (sym named) ∙ ends))
    ∙ ap (λ x. seen_with (probe_of tool (class_of x) i (i + 1 == length block.words)) s.cpu I) named
