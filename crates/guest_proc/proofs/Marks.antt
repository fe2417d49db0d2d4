-- The ledger over the states of one block.
use Rattle.std.proofs.Common.{◌≡◌, ℕ, zero, suc, ◌+◌, ◌-◌, ◌*◌, ◌%◌, ◌<◌, ◌≤◌, ◌==◌, Bool, true, false, if◌then◌else◌, List, [], ◌∷◌, ◌++◌, length, slice_index, Option, Some, None, Result, Ok, Err, refl, sym, ◌∙◌, ap, subst, arith, inl, inr}
use Rattle.std.specs.Prelude.{nat_lt}
use Rattle.std.proofs.lemmas.Bool.{cases_Bool}
use Rattle.std.proofs.lemmas.Bool.Decides.{nat_tests}
use Rattle.rv_decode.specs.declared.ins.Ins.{Ins}
use Rattle.rv_decode.specs.declared.ins.Ins.TheVariants as ins
use Rattle.rv_decode.specs.declared.ins.Isa.{Isa}
use Rattle.rv_decode.specs.Table.{instruction}
use Rattle.cc_base.specs.Image.{Code}
use Rattle.cc_base.specs.declared.span.Span.{Span}
use Rattle.probe_tools.specs.declared.tool.Tool.{Tool}
use Rattle.plain_machine.specs.declared.access.Access.{Access}
use Rattle.plain_machine.specs.declared.cpu.Cpu.{Cpu}
use Rattle.plain_machine.specs.declared.cpu.Done.TheVariants as done
use Rattle.plain_machine.specs.declared.effect.Effect.{Effect}
use Rattle.plain_machine.specs.declared.effect.Effect.TheVariants as effects
use Rattle.plain_machine.specs.Memory.{Memory, stored, size_of}
use Rattle.plain_machine.specs.Step.{Outcome, performed, effect_of, store}
use Rattle.plain_machine.specs.Calls.{called}
use Rattle.plain_machine.specs.Machine.{State, Setting}
use Rattle.plain_machine.specs.Cut.{ends_block}
use Rattle.fragment.specs.Parts.{Parts}
use Rattle.fragment.specs.Build.{IsBuilt, last}
use Rattle.fragment.specs.Exits.{exits_at, exits_of}
use Rattle.engine.specs.declared.block.Left.{Left}
use Rattle.engine.specs.declared.block.Left.TheVariants as left
use Rattle.engine.specs.Words.{DoesWords, state_at, outcome_in, done_at, word_of, is_first, marks_before, last_exit, left_by as left_how}
use Rattle.engine.proofs.Path.{state-first, state-more, marks-none, marks-more}
use Rattle.engine.proofs.Steps.{goes-on, GoesOn}
use Rattle.engine.proofs.Stored.{isa-kept}
use Rattle.block_ledger.specs.Ledger.{Ledger, left_by, written}
use Rattle.block_ledger.specs.Traced.{Scheme, Trace, on_ledger, direct, exit_by, beginning, block_at, after_call, after_step, after_word, after, traced, range_of}

-- ---- the exits of an instruction

-- the last of its exits
last_exit_is : (i : Ins) (p n : ℕ) → exit_by (exits_at p n i) done.Next ≡ direct (last_exit (exits_at p n i)) (exits_at p n i)
last_exit_is (ins.Beq rs1 rs2 imm) p n = refl
last_exit_is (ins.Bne rs1 rs2 imm) p n = refl
last_exit_is (ins.Blt rs1 rs2 imm) p n = refl
last_exit_is (ins.Bge rs1 rs2 imm) p n = refl
last_exit_is (ins.Bltu rs1 rs2 imm) p n = refl
last_exit_is (ins.Bgeu rs1 rs2 imm) p n = refl
last_exit_is (ins.Jal rd imm) p n = refl
last_exit_is (ins.Jalr rd rs1 imm) p n = refl
last_exit_is ins.Ecall p n = refl
last_exit_is ins.Ebreak p n = refl
last_exit_is ins.None p n = refl
last_exit_is _ p n = refl

-- which exits are direct does not depend on where the instruction stands
same_first : (i : Ins) (p n q r : ℕ) → direct 0 (exits_at p n i) ≡ direct 0 (exits_at q r i)
same_first (ins.Beq rs1 rs2 imm) p n q r = refl
same_first (ins.Bne rs1 rs2 imm) p n q r = refl
same_first (ins.Blt rs1 rs2 imm) p n q r = refl
same_first (ins.Bge rs1 rs2 imm) p n q r = refl
same_first (ins.Bltu rs1 rs2 imm) p n q r = refl
same_first (ins.Bgeu rs1 rs2 imm) p n q r = refl
same_first (ins.Jal rd imm) p n q r = refl
same_first (ins.Jalr rd rs1 imm) p n q r = refl
same_first ins.Ecall p n q r = refl
same_first ins.Ebreak p n q r = refl
same_first ins.None p n q r = refl
same_first _ p n q r = refl

same_last : (i : Ins) (p n q r : ℕ) → exit_by (exits_at p n i) done.Next ≡ exit_by (exits_at q r i) done.Next
same_last (ins.Beq rs1 rs2 imm) p n q r = refl
same_last (ins.Bne rs1 rs2 imm) p n q r = refl
same_last (ins.Blt rs1 rs2 imm) p n q r = refl
same_last (ins.Bge rs1 rs2 imm) p n q r = refl
same_last (ins.Bltu rs1 rs2 imm) p n q r = refl
same_last (ins.Bgeu rs1 rs2 imm) p n q r = refl
same_last (ins.Jal rd imm) p n q r = refl
same_last (ins.Jalr rd rs1 imm) p n q r = refl
same_last ins.Ecall p n q r = refl
same_last ins.Ebreak p n q r = refl
same_last ins.None p n q r = refl
same_last _ p n q r = refl

-- an instruction that ends no block goes on by its one exit
on_by_first : (i : Ins) (p n : ℕ) → ends_block i ≡ false → exit_by (exits_at p n i) done.Next ≡ Some 0
on_by_first (ins.Beq rs1 rs2 imm) p n e = absurd (cc)
on_by_first (ins.Bne rs1 rs2 imm) p n e = absurd (cc)
on_by_first (ins.Blt rs1 rs2 imm) p n e = absurd (cc)
on_by_first (ins.Bge rs1 rs2 imm) p n e = absurd (cc)
on_by_first (ins.Bltu rs1 rs2 imm) p n e = absurd (cc)
on_by_first (ins.Bgeu rs1 rs2 imm) p n e = absurd (cc)
on_by_first (ins.Jal rd imm) p n e = absurd (cc)
on_by_first (ins.Jalr rd rs1 imm) p n e = absurd (cc)
on_by_first ins.Ecall p n e = absurd (cc)
on_by_first ins.Ebreak p n e = absurd (cc)
on_by_first ins.None p n e = absurd (cc)
on_by_first _ p n e = refl

-- ---- one word

-- no word changes the instruction set
isa-at : (words : List ℕ) (s : State) (i : ℕ) → (state_at words s i).cpu.isa ≡ s.cpu.isa
isa-at words s zero = ap (λ x. x.cpu.isa) (state-first words s)
isa-at words s (suc i) =
    let now = state_at words s i in
    ap (λ x. x.cpu.isa) (state-more words s i) ∙ isa-kept (effect_of (instruction now.cpu.isa (slice_index words i)) now.cpu now.memory) now.cpu now.memory ∙ isa-at words s i

-- a word that transfers control ends its block
taken_by : (b : Bool) (i : Ins) (cpu : Cpu) (m : Memory) (o : Outcome) → ends_block i ≡ b → GoesOn cpu o → o.0 ≡ done.Taken → ⊥
taken_by b i cpu m (done.Next, c, after) ends on is = cc
taken_by b i cpu m (done.Taken, c, after) ends on is = on
taken_by b i cpu m (done.Asked, c, after) ends on is = on
taken_by b i cpu m (done.Touched span, c, after) ends on is = cc
taken_by b i cpu m (done.Fault kind, c, after) ends on is = cc

taken-ends : (i : Ins) (cpu : Cpu) (m : Memory) → (performed (effect_of i cpu m) cpu m).0 ≡ done.Taken → ends_block i ≡ true
taken-ends i cpu m is = elim (cases_Bool (ends_block i)) [
  | inl ends ↦ ends
  | inr inner ↦ absurd (taken_by false i cpu m (performed (effect_of i cpu m) cpu m) inner (goes-on i cpu m inner) is)
]

-- a word that calls changes nothing
abbrev pub AskedSame : Cpu → Memory → Outcome → Type 0
AskedSame cpu m (done.Asked, c, after) = (c ≡ cpu) × (after ≡ m)
AskedSame cpu m (done.Next, c, after) = Unit {0}
AskedSame cpu m (done.Taken, c, after) = Unit {0}
AskedSame cpu m (done.Touched span, c, after) = Unit {0}
AskedSame cpu m (done.Fault kind, c, after) = Unit {0}

either : (cpu : Cpu) (m : Memory) (b : Bool) (x y : Outcome) → AskedSame cpu m x → AskedSame cpu m y → AskedSame cpu m (if b then x else y)
either cpu m true x y p q = p
either cpu m false x y p q = q

store_same : (cpu : Cpu) (m : Memory) (addr n : ℕ) (b : Bool) (span : Span) (c : Cpu) (after : Memory) → AskedSame cpu m (if b then done.Touched span else done.Next, c, after)
store_same cpu m addr n true span c after = tt
store_same cpu m addr n false span c after = tt

stores_same : (cpu : Cpu) (m : Memory) (addr n : ℕ) (r : Result Memory Access) → AskedSame cpu m (store cpu m addr n r)
stores_same cpu m addr n (Ok after) = store_same cpu m addr n _ _ _ after
stores_same cpu m addr n (Err e) = tt

asked-same : (e : Effect) (cpu : Cpu) (m : Memory) → AskedSame cpu m (performed e cpu m)
asked-same (effects.Set rd value) cpu m = tt
asked-same (effects.Jump rd target) cpu m = either cpu m (target % 4 == 0) _ _ tt tt
asked-same (effects.Store addr size value) cpu m = stores_same cpu m addr (size_of size) (stored m addr size value)
asked-same effects.Nothing cpu m = tt
asked-same effects.Ask cpu m = (refl, refl)
asked-same (effects.Fault kind) cpu m = tt

-- ---- the trace

pub traced-more : (w : Setting) (scheme : Scheme) (xs : List (State × Bool)) (x : State × Bool) (t : Trace) → traced w scheme (xs ++ x ∷ []) t ≡ after w scheme x (traced w scheme xs t)
traced-more w scheme [] x t = refl
traced-more w scheme (y ∷ ys) x t = traced-more w scheme ys x (after w scheme y t)

left_twice : (x y : Option ℕ) (led : Ledger) → left_by x (left_by y led) ≡ left_by x led
left_twice None None led = refl
left_twice None (Some e) led = refl
left_twice (Some e) None led = refl
left_twice (Some e) (Some f) led = refl

-- what a block that is left so, in state next, does to the ledger besides its begin
abbrev pub leaving : Scheme → Parts → Left → State → Setting → Trace → Trace
leaving scheme block (left.Exit e) next w t = on_ledger (left_by (direct e block.exits)) t
leaving scheme block left.Asked next w t = after_call w scheme (called next.cpu next.memory next.io) (on_ledger (left_by None) t)
leaving scheme block (left.Touched span) next w t = on_ledger (λ led. written (range_of span) (left_by None led)) t
leaving scheme block (left.Fault kind) next w t = on_ledger (left_by None) t
leaving scheme block left.Fuel next w t = on_ledger (left_by (Some 0)) t

module _ (w : Setting) (scheme : Scheme) (block : Parts) (s : State) (t : Trace) (begins : block_at scheme s ≡ Some block) where
  abbrev base : Trace
  base = beginning scheme (Some block) t

  abbrev at : ℕ → State
  at i = state_at block.words s i

  abbrev word : ℕ → ℕ
  word i = slice_index block.words i

  abbrev does : ℕ → Ins
  does i = instruction (at i).cpu.isa (word i)

  -- before word number i is done
  abbrev prepared : ℕ → Trace
  prepared i = if is_first i then beginning scheme (block_at scheme (at i)) (traced w scheme (marks_before block.words s i) t) else traced w scheme (marks_before block.words s i) t

  -- the block has begun, and how it is left is open
  abbrev HasBase : Trace → Type 0
  HasBase now = (x : Option ℕ) → on_ledger (left_by x) now ≡ on_ledger (left_by x) base

  traced-to : (i : ℕ) → word_of (at i) ≡ Ok (word i) → traced w scheme (marks_before block.words s (suc i)) t ≡ after_step w scheme (at i) (does i) (outcome_in (at i) (word i)) (prepared i)
  traced-to i there =
      ap (λ marks. traced w scheme marks t) (marks-more block.words s i)
      ∙ traced-more w scheme (marks_before block.words s i) (at i, is_first i) t
      ∙ ap (λ r. after_word w scheme (at i) r (prepared i)) there

  next_step : (x : State) (i : Ins) (o : Outcome) (now : Trace) → o.0 ≡ done.Next → after_step w scheme x i o now ≡ on_ledger (left_by (exit_by (exits_of x.cpu.pc i) done.Next)) now
  next_step x i (done.Next, c, m) now is = refl
  next_step x i (done.Taken, c, m) now is = absurd (cc)
  next_step x i (done.Asked, c, m) now is = absurd (cc)
  next_step x i (done.Touched span, c, m) now is = absurd (cc)
  next_step x i (done.Fault kind, c, m) now is = absurd (cc)

  has_left : (e : Option ℕ) (now : Trace) → now ≡ on_ledger (left_by e) base → HasBase now
  has_left e now is x = ap (on_ledger (left_by x)) is ∙ ap (λ l. on_ledger (λ _. l) base) (left_twice x e base.ledger)

  before : (i : ℕ) → ((k : ℕ) → k < i → word_of (at k) ≡ Ok (word k)) → ((k : ℕ) → k < i → done_at block.words s k ≡ done.Next) → HasBase (prepared i)
  before zero there went = λ x.
      ap (λ marks. on_ledger (left_by x) (beginning scheme (block_at scheme (at 0)) (traced w scheme marks t))) (marks-none block.words s)
      ∙ ap (λ y. on_ledger (left_by x) (beginning scheme (block_at scheme y) t)) (state-first block.words s)
      ∙ ap (λ f. on_ledger (left_by x) (beginning scheme f t)) begins
  before (suc i) there went =
      let earlier = before i (λ k lt. there k (omega arith)) (λ k lt. went k (omega arith)) in
      let e : Option ℕ = exit_by (exits_of (at i).cpu.pc (does i)) done.Next in
      has_left e (prepared (suc i)) (traced-to i (there i (omega arith)) ∙ next_step (at i) (does i) (outcome_in (at i) (word i)) (prepared i) (went i (omega arith)) ∙ earlier e)

  -- ---- the last word

  module _ (code : Code) (isa : Isa) (tool : Tool) (max : ℕ) (built : IsBuilt code isa tool max block) (same_isa : s.cpu.isa ≡ isa) where
    isa_here : (i : ℕ) → does i ≡ instruction isa (word i)
    isa_here i = ap (λ x. instruction x (word i)) (isa-at block.words s i ∙ same_isa)

    last_ins : (i : ℕ) → suc i ≡ length block.words → does i ≡ instruction isa (last block.words)
    last_ins i full = let at_end : i ≡ length block.words - 1 = omega (arith, full) in isa_here i ∙ ap (λ k. instruction isa (slice_index block.words k)) at_end

    exit_last : (i : ℕ) → suc i ≡ length block.words → exit_by (exits_of (at i).cpu.pc (does i)) done.Next ≡ direct (last_exit block.exits) block.exits
    exit_last i full =
        let p : ℕ = block.address + 4 * (length block.words - 1) in
        ap (λ x. exit_by (exits_of (at i).cpu.pc x) done.Next) (last_ins i full)
        ∙ same_last (instruction isa (last block.words)) _ _ p _
        ∙ last_exit_is (instruction isa (last block.words)) p _
        ∙ ap (λ exits. direct (last_exit exits) exits) (sym built.exits)

    exit_taken : (i : ℕ) → suc i ≡ length block.words → exit_by (exits_of (at i).cpu.pc (does i)) done.Taken ≡ direct 0 block.exits
    exit_taken i full =
        ap (λ x. direct 0 (exits_of (at i).cpu.pc x)) (last_ins i full)
        ∙ same_first (instruction isa (last block.words)) _ _ (block.address + 4 * (length block.words - 1)) _
        ∙ ap (direct 0) (sym built.exits)

    inner : (i : ℕ) → suc i < length block.words → ends_block (does i) ≡ false
    inner i more = ap ends_block (isa_here i) ∙ built.inner i (omega arith)

    exit_on : (i : ℕ) → suc i < length block.words → exit_by (exits_of (at i).cpu.pc (does i)) done.Next ≡ Some 0
    exit_on i more = on_by_first (does i) _ _ (inner i more)

    -- by whether words are left
    next_by : (i : ℕ) (more : Bool) (how : Left) (next : State) (now : Trace) → nat_lt (suc i) (length block.words) ≡ more → suc i ≤ length block.words → how ≡ left_how block.exits more done.Next → HasBase now →
        on_ledger (left_by (exit_by (exits_of (at i).cpu.pc (does i)) done.Next)) now ≡ leaving scheme block how next w base
    next_by i true how next now more within is has =
        has (exit_by (exits_of (at i).cpu.pc (does i)) done.Next)
        ∙ ap (λ e. on_ledger (left_by e) base) (exit_on i (grind (arith, nat_tests)))
        ∙ ap (λ l. leaving scheme block l next w base) (sym is)
    next_by i false how next now more within is has =
        let full : suc i ≡ length block.words = grind (arith, nat_tests) in
        has (exit_by (exits_of (at i).cpu.pc (does i)) done.Next)
        ∙ ap (λ e. on_ledger (left_by e) base) (exit_last i full)
        ∙ ap (λ l. leaving scheme block l next w base) (sym is)

    full_by : (i : ℕ) (b : Bool) → nat_lt (suc i) (length block.words) ≡ b → suc i ≤ length block.words → ends_block (does i) ≡ true → suc i ≡ length block.words
    full_by i true more within ends = let off : ends_block (does i) ≡ false = inner i (grind (arith, nat_tests)) in absurd (cc)
    full_by i false more within ends = grind (arith, nat_tests)

    abbrev AskedSo : State → Outcome → State → Type 0
    AskedSo x o next = next ≡ record x { cpu = o.1; memory = o.2 }

    by_outcome : (i : ℕ) (o : Outcome) (how : Left) (next : State) (now : Trace) → outcome_in (at i) (word i) ≡ o → suc i ≤ length block.words → how ≡ left_how block.exits (nat_lt (suc i) (length block.words)) o.0 → AskedSo (at i) o next → HasBase now →
        after_step w scheme (at i) (does i) o now ≡ leaving scheme block how next w base
    by_outcome i (done.Next, c, m) how next now did within is reached has = next_by i (nat_lt (suc i) (length block.words)) how next now refl within is has
    by_outcome i (done.Taken, c, m) how next now did within is reached has =
        let ends : ends_block (does i) ≡ true = taken-ends (does i) (at i).cpu (at i).memory (ap (λ o. o.0) did) in
        let full : suc i ≡ length block.words = full_by i (nat_lt (suc i) (length block.words)) refl within ends in
        has (exit_by (exits_of (at i).cpu.pc (does i)) done.Taken)
        ∙ ap (λ e. on_ledger (left_by e) base) (exit_taken i full)
        ∙ ap (λ l. leaving scheme block l next w base) (sym is)
    by_outcome i (done.Asked, c, m) how next now did within is reached has =
        let same : (c ≡ (at i).cpu) × (m ≡ (at i).memory) = subst (AskedSame (at i).cpu (at i).memory) did (asked-same (effect_of (does i) (at i).cpu (at i).memory) (at i).cpu (at i).memory) in
        let still : next ≡ at i = reached ∙ ap (λ x. record (at i) { cpu = x; memory = m }) same.0 ∙ ap (λ x. record (at i) { memory = x }) same.1 in
        ap (after_call w scheme (called (at i).cpu (at i).memory (at i).io)) (has None)
        ∙ ap (λ x. after_call w scheme (called x.cpu x.memory x.io) (on_ledger (left_by None) base)) (sym still)
        ∙ ap (λ l. leaving scheme block l next w base) (sym is)
    by_outcome i (done.Touched span, c, m) how next now did within is reached has =
        ap (on_ledger (written (range_of span))) (has None) ∙ ap (λ l. leaving scheme block l next w base) (sym is)
    by_outcome i (done.Fault kind, c, m) how next now did within is reached has = has None ∙ ap (λ l. leaving scheme block l next w base) (sym is)

    less_one : (i k : ℕ) → k < i → k < suc i
    less_one i k lt = omega arith

    -- the words of the block, the last of which is number i
    by_words : (i : ℕ) (how : Left) (next : State) → DoesWords block (suc i) s how next → traced w scheme (marks_before block.words s (suc i)) t ≡ leaving scheme block how next w base
    by_words i how next d =
        let pred : suc i - 1 ≡ i = omega arith in
        let is : how ≡ left_how block.exits (nat_lt (suc i) (length block.words)) (done_at block.words s i) = d.left ∙ ap (λ k. left_how block.exits (nat_lt (suc i) (length block.words)) (done_at block.words s k)) pred in
        let here = before i (λ k lt. d.there k (less_one i k lt)) (λ k lt. d.went k (omega arith)) in
        traced-to i (d.there i (omega arith))
        ∙ by_outcome i (outcome_in (at i) (word i)) how next (prepared i) refl d.at_most is (d.reached ∙ state-more block.words s i) here

    pub block-traced : (n : ℕ) (how : Left) (next : State) → DoesWords block n s how next → traced w scheme (marks_before block.words s n) t ≡ leaving scheme block how next w base
    block-traced zero how next d = absurd (omega (arith, d.some))
    block-traced (suc i) how next d = by_words i how next d
