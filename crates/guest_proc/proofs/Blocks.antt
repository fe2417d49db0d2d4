-- A block that stands ready, run.
use Rattle.std.proofs.Common.{◌≡◌, ℕ, ◌+◌, ◌-◌, ◌*◌, ◌%◌, ◌^◌, ◌<◌, ◌≤◌, Bool, true, false, if◌then◌else◌, List, [], length, Option, Some, None, Result, Err, refl, sym, ◌∙◌, ap, subst, arith, inl, inr}
use Rattle.std.specs.Prelude.{find, slice_get, IfSome, OnErr}
use Rattle.std.proofs.lemmas.Bool.{cases_lt}
use Rattle.std.proofs.lemmas.List.{append-nil}
use Rattle.std.proofs.lemmas.Option.{slice_get_past}
use Rattle.cc_base.specs.declared.span.Span.{Span}
use Rattle.rv_decode.specs.declared.ins.Ins.{Ins}
use Rattle.rv_decode.specs.declared.ins.Ins.TheVariants as ins
use Rattle.rv_decode.specs.declared.ins.Isa.{Isa}
use Rattle.rv_decode.specs.Table.{instruction}
use Rattle.probe_tools.specs.declared.tool.Tool.{Tool}
use Rattle.plain_machine.specs.declared.cpu.Cpu.{Cpu}
use Rattle.plain_machine.specs.Io.{Io}
use Rattle.plain_machine.specs.Memory.{Memory, IsMemory, has_code, code_of}
use Rattle.plain_machine.specs.Machine.{State, Setting}
use Rattle.plain_machine.specs.Events.{events}
use Rattle.fragment.specs.declared.Exit.{Exit}
use Rattle.fragment.specs.Parts.{Parts}
use Rattle.fragment.specs.Build.{last}
use Rattle.fragment.specs.Exits.{exits_at}
use Rattle.fragment.proofs.Values.{own_size}
use Rattle.report.specs.Rows.{Rows}
use Rattle.engine.specs.declared.block.Left.{Left}
use Rattle.engine.specs.declared.block.Left.TheVariants as lefts
use Rattle.engine.specs.Runs.{RunsBlock, onward}
use Rattle.engine.specs.Seeing.{with_events}
use Rattle.engine.specs.Standing.{StandsIn, SameCode, IsStored, state}
use Rattle.engine.specs.Words.{DoesWords, marks_before}
use Rattle.block_ledger.specs.Ledger.{Ledger, left_by, view, written}
use Rattle.block_ledger.specs.Requests.{Asking}
use Rattle.block_ledger.specs.Traced.{Scheme, Trace, range_of, direct, is_direct}
use Rattle.guest_proc.specs.Begun.{BlockBegins}
use Rattle.guest_proc.specs.Fresh.{AreFresh, AreMapped, block_in}
use Rattle.guest_proc.specs.Process.{CallsSystem, Went, trace, process}
use Rattle.guest_proc.proofs.Put.{found-at}
use Rattle.guest_proc.proofs.Kept.{fresh-same, fresh-left, fresh-stored, mapped-same, mapped-stored, mapped-segments, segments-left}
use Rattle.guest_proc.proofs.Marks.{block-traced, leaving}

-- what stands ready stands in memory
pub ready-stands : (tool : Tool) (max : ℕ) (isa : Isa) (m : Memory) (a : ℕ) (block : Parts) → 0 < max → IsMemory m → block_in tool max isa m a ≡ Some block → StandsIn m isa tool max block
ready-stands tool max isa m a block some good is =
    let f = found-at tool max isa m a block some is in
    record { memory = good; region = f.region; here = subst (λ x. find (has_code x 1) m ≡ Some f.region) (sym f.at) f.here; fresh = f.fresh }

-- and for its own number of words
pub own-stands : (tool : Tool) (max : ℕ) (isa : Isa) (m : Memory) (a : ℕ) (block : Parts) → 0 < max → IsMemory m → block_in tool max isa m a ≡ Some block → StandsIn m isa tool (length block.words) block
own-stands tool max isa m a block some good is =
    let f = found-at tool max isa m a block some is in
    record {
      memory = good;
      region = f.region;
      here = subst (λ x. find (has_code x 1) m ≡ Some f.region) (sym f.at) f.here;
      fresh = own_size (code_of f.region) isa tool max block some f.fresh;
    }

-- a block was run, and left so
pub went-block : (scheme : Scheme) (block : Parts) (n fuel rest : ℕ) (s next : State) (how : Left) (rows more : Rows) (led ready last : Ledger) (change : Setting → Trace → Trace) → 0 < scheme.max →
    RunsBlock scheme.max block n fuel s how rest next → block_in scheme.tool scheme.max s.cpu.isa s.memory s.cpu.pc ≡ Some block → BlockBegins scheme block led ready →
    more ≡ with_events (events scheme.tool (marks_before block.words s n)) rows →
    ((w : Setting) (maps : List ℕ) (units : List (List ℕ)) (requests : List Asking) → leaving scheme block how next w (trace ready maps units requests) ≡ change w (trace last maps units requests)) →
    Went scheme [] (record { state = s; fuel = fuel; report = rows; ledger = led }) (record { state = next; fuel = rest; report = more; ledger = last }) change (onward scheme.max how rest next)
went-block scheme block n fuel rest s next how rows more led ready last change some runs here begun counted left = record {
  marks = marks_before block.words s n;
  seen = runs.seen;
  counted = counted;
  ledger = λ w maps units requests.
      let f = found-at scheme.tool scheme.max s.cpu.isa s.memory s.cpu.pc block some here in
      block-traced w scheme block s (trace led maps units requests) here (code_of f.region) s.cpu.isa scheme.tool scheme.max f.built refl n how next runs.words
      ∙ ap (leaving scheme block how next w) (begun maps units requests)
      ∙ left w maps units requests
      ∙ ap (λ rs. change w (trace last maps units rs)) (sym (append-nil requests));
}

-- ---- what is kept

module _ (tool : Tool) (max : ℕ) where
  pub kept-same : (m after : Memory) (isa now : Isa) (e : Option ℕ) (led last : Ledger) → SameCode m after → now ≡ isa → last ≡ left_by e led → AreFresh tool max isa m led → AreFresh tool max now after last
  kept-same m after isa now e led last same same_isa is fresh =
      subst (λ l. AreFresh tool max now after l) (sym is) (subst (λ i. AreFresh tool max i after (left_by e led)) (sym same_isa) (fresh-same tool max isa m after (left_by e led) same (fresh-left tool max isa m e led fresh)))

  pub kept-stored : (m after : Memory) (isa now : Isa) (span : Span) (led last : Ledger) → 0 < max → IsStored span m after → now ≡ isa → last ≡ written (range_of span) (left_by None led) → AreFresh tool max isa m led →
      AreFresh tool max now after last
  kept-stored m after isa now span led last some stored same_isa is fresh =
      subst (λ l. AreFresh tool max now after l) (sym is) (subst (λ i. AreFresh tool max i after (written (range_of span) (left_by None led))) (sym same_isa)
      (fresh-stored tool max isa m after span (left_by None led) some stored (fresh-left tool max isa m None led fresh)))

pub mapped-left : (m after : Memory) (e : Option ℕ) (led last : Ledger) → SameCode m after → last ≡ left_by e led → AreMapped m led → AreMapped after last
mapped-left m after e led last same is mapped =
    subst (λ l. AreMapped after l) (sym is) (mapped-same m after (left_by e led) same (mapped-segments m led (left_by e led) (segments-left e led) mapped))

pub mapped-put : (m after : Memory) (span : Span) (led last : Ledger) → IsStored span m after → last ≡ written (range_of span) (left_by None led) → AreMapped m led → AreMapped after last
mapped-put m after span led last stored is mapped =
    subst (λ l. AreMapped after l) (sym is) (mapped-stored m after span (left_by None led) stored (mapped-segments m led (left_by None led) refl mapped))

-- ---- in the words of the code

pub small_exit : (i : Ins) (p n : ℕ) → length (exits_at p n i) ≤ 2
small_exit (ins.Beq rs1 rs2 imm) p n = omega arith
small_exit (ins.Bne rs1 rs2 imm) p n = omega arith
small_exit (ins.Blt rs1 rs2 imm) p n = omega arith
small_exit (ins.Bge rs1 rs2 imm) p n = omega arith
small_exit (ins.Bltu rs1 rs2 imm) p n = omega arith
small_exit (ins.Bgeu rs1 rs2 imm) p n = omega arith
small_exit (ins.Jal rd imm) p n = omega arith
small_exit (ins.Jalr rd rs1 imm) p n = omega arith
small_exit ins.Ecall p n = omega arith
small_exit ins.Ebreak p n = omega arith
small_exit ins.None p n = omega arith
small_exit _ p n = omega arith

direct_by : (e : ℕ) (b : Bool) → e < 2 → IfSome (if b then Some e else None) (λ x. x < 2)
direct_by e true less = less
direct_by e false less = tt

-- a direct exit is one of two
pub direct-small : (e : ℕ) (exits : List Exit) → length exits ≤ 2 → IfSome (direct e exits) (λ x. x < 2)
direct-small e exits few = elim (cases_lt e (length exits)) [
  | inl less ↦ direct_by e (is_direct (slice_get exits e)) (omega arith)
  | inr past ↦ let none : slice_get exits e ≡ None = slice_get_past exits e (omega arith) in rw none tt
]

pub leave-small : (tool : Tool) (max : ℕ) (isa : Isa) (m : Memory) (a e : ℕ) (block : Parts) (exits : List Exit) (exit : Option ℕ) → 0 < max → block_in tool max isa m a ≡ Some block → exits ≡ block.exits → exit ≡ direct e exits → IfSome exit (λ x. x < 2)
leave-small tool max isa m a e block exits exit some is same at =
    let f = found-at tool max isa m a block some is in
    let i : Ins = instruction isa (last block.words) in
    let p : ℕ = block.address + 4 * (length block.words - 1) in
    let few : length exits ≤ 2 = rw (same, f.built.exits) (small_exit i p ((p + 4) % 2 ^ 32)) in
    subst (λ o. IfSome o (λ x. x < 2)) (sym at) (direct-small e exits few)

-- the block that stands ready was run
pub ran-block : (scheme : Scheme) (max : ℕ) (block other : Parts) (fuel rest : ℕ) (cpu c : Cpu) (m after : Memory) (io : Io) (left how : Left) (rows more : Rows) (led ready last : Ledger) (change : Setting → Trace → Trace) → 0 < max →
    scheme.tool ≡ rows.tool → scheme.max ≡ max → IsMemory m → block_in rows.tool max cpu.isa m cpu.pc ≡ Some block → block ≡ other → BlockBegins scheme other led ready →
    ((k : ℕ) (i : Io) → 0 < k → StandsIn m cpu.isa rows.tool k block → RunsBlock k block (fuel - rest) fuel (state cpu m i) left rest (state c after i)) → left ≡ how →
    ((i : Io) → more ≡ with_events (events rows.tool (marks_before block.words (state cpu m i) (fuel - rest))) rows) →
    ((w : Setting) (maps : List ℕ) (units : List (List ℕ)) (requests : List Asking) → leaving scheme block how (state c after io) w (trace ready maps units requests) ≡ change w (trace last maps units requests)) →
    Went scheme [] (process cpu m io fuel rows led) (process c after io rest more last) change (onward scheme.max how rest (state c after io))
ran-block scheme max block other fuel rest cpu c m after io left how rows more led ready last change some tool_is max_is good here one begun runs is counted did =
    let here' : block_in scheme.tool scheme.max cpu.isa m cpu.pc ≡ Some block = ap (λ x. block_in x scheme.max cpu.isa m cpu.pc) tool_is ∙ ap (λ x. block_in rows.tool x cpu.isa m cpu.pc) max_is ∙ here in
    let some' : 0 < scheme.max = rw max_is some in
    let stands : StandsIn m cpu.isa rows.tool scheme.max block = subst (λ x. StandsIn m cpu.isa rows.tool x block) (sym max_is) (ready-stands rows.tool max cpu.isa m cpu.pc block some good here) in
    went-block scheme block (fuel - rest) fuel rest (state cpu m io) (state c after io) how rows more led ready last change some'
    (subst (λ l. RunsBlock scheme.max block (fuel - rest) fuel (state cpu m io) l rest (state c after io)) is (runs scheme.max io some' stands))
    here' (subst (λ f. BlockBegins scheme f led ready) (sym one) begun)
    (counted io ∙ ap (λ x. with_events (events x (marks_before block.words (state cpu m io) (fuel - rest))) rows) (sym tool_is))
    did

-- the block that stands ready comes to a call
pub calls-block : (max : ℕ) (block : Parts) (fuel rest : ℕ) (cpu c : Cpu) (m after : Memory) (io : Io) (how : Left) (rows : Rows) (led : Ledger) → 0 < max → IsMemory m → block_in rows.tool max cpu.isa m cpu.pc ≡ Some block → view led cpu.pc ≡ Some block →
    ((k : ℕ) (i : Io) → 0 < k → StandsIn m cpu.isa rows.tool k block → RunsBlock k block (fuel - rest) fuel (state cpu m i) how rest (state c after i)) → how ≡ lefts.Asked →
    CallsSystem (process cpu m io fuel rows led)
calls-block max block fuel rest cpu c m after io how rows led some good here ready runs is =
    let ran = runs max io some (ready-stands rows.tool max cpu.isa m cpu.pc block some good here) in
    record {
      block = block;
      ready = ready;
      words = fuel - rest;
      fuel = omega (arith, ran.spent);
      state = state c after io;
      calls = subst (λ l. DoesWords block (fuel - rest) (state cpu m io) l (state c after io)) is ran.words;
    }

pub no_io : Io
no_io = record { input = []; output = []; heap = None; map_calls = 0; mapped = [] }

pub on_err : {T E : Type 0} (r : Result T E) (y : E) (P : Type 0) → r ≡ Err y → P → OnErr r P
on_err r y P is p = rw is p
