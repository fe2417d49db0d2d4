-- One block of a process.
use Rattle.std.proofs.Common.{◌≡◌, ℕ, ◌+◌, ◌%◌, ◌^◌, ◌<◌, ◌==◌, Bool, true, false, if◌then◌else◌, [], ◌++◌, Option, Some, None, Result, Ok, Err, refl, sym, ◌∙◌, ap, subst, arith, inl, inr}
use Rattle.std.specs.Prelude.{◌≢◌, is_some, IfNone, IfSome, IfOk, OnErr, OnOk}
use Rattle.std.proofs.lemmas.Bool.{cases_Bool}
use Rattle.std.proofs.lemmas.Bool.Decides.{nat_tests}
use Rattle.std.proofs.lemmas.List.{append-nil}
use Rattle.std.proofs.lemmas.Option.{same_Some}
use Rattle.std.specs.FinMap as fin
use Rattle.std.specs.Option.{option_map}
use Rattle.rv_decode.specs.declared.ins.Isa.{Isa}
use Rattle.probe_tools.specs.declared.tool.Tool.{Tool}
use Rattle.probe_tools.specs.Rows.{count_at}
use Rattle.plain_machine.specs.declared.access.Access.{Access}
use Rattle.plain_machine.specs.declared.cpu.Cpu.{Cpu}
use Rattle.plain_machine.specs.declared.ends.End.TheVariants as ends
use Rattle.plain_machine.specs.declared.ends.Kind.TheVariants as kinds
use Rattle.plain_machine.specs.Memory.{Memory, fetched}
use Rattle.plain_machine.specs.Io.{Io}
use Rattle.fragment.specs.Parts.{Parts}
use Rattle.report.specs.Rows.{Rows}
use Rattle.engine.specs.Standing.{SameRegions}
use Rattle.block_build.specs.Making.{Taken}
use Rattle.block_ledger.specs.Ledger.{Ledger, Segment, begun, view, is_live, wants_room, flushed, all_offered}
use Rattle.block_ledger.specs.Requests.{offers}
use Rattle.block_ledger.specs.Traced.{Scheme, room_asks, with_block}
use Rattle.region_laws.proofs.HeapMoves.{heap-kept, stand-same}
use Rattle.guest_proc.specs.declared.stop.Ran.{Ran}
use Rattle.guest_proc.specs.declared.stop.Ran.TheVariants as ran
use Rattle.guest_proc.specs.declared.stop.Stop.{Stop}
use Rattle.guest_proc.specs.declared.stop.Stop.TheVariants as stop
use Rattle.guest_proc.specs.Begun.{AreMade, BlockBegins, HasBegun}
use Rattle.guest_proc.specs.Called.{CallDone}
use Rattle.guest_proc.specs.Fresh.{AreFresh, AreMapped, AreOfUnits, SharesNoMore, block_in}
use Rattle.guest_proc.specs.Kept.{IsReady, Keeps, StopsWell, image_at}
use Rattle.guest_proc.specs.Process.{Advances, CallEnds, CallsSystem, IsOneBlock, LacksRow, Process, RanBlock, WantsMemory, process, stop_at, stop_of, stop_with, trace}
use Rattle.guest_proc.proofs.Kept.{fresh-begun, mapped-segments, one-more, segments-begun, shared-begun, units-kept}

-- ---- the begin

pub begun-fresh : (tool : Tool) (max : ℕ) (isa : Isa) (m : Memory) (a : ℕ) (old new : Ledger) → HasBegun tool max isa m a old new → AreFresh tool max isa m old → AreFresh tool max isa m new
begun-fresh tool max isa m a old new b fresh =
    subst (λ l. AreFresh tool max isa m l) (sym b.ledger) (fresh-begun tool max isa m b.block old (subst (λ x. block_in tool max isa m x ≡ Some b.block) (sym b.at) b.fresh) fresh)

begun_segments : (tool : Tool) (max : ℕ) (isa : Isa) (m : Memory) (a : ℕ) (old new : Ledger) → HasBegun tool max isa m a old new → new.segments ≡ old.segments
begun_segments tool max isa m a old new b = ap (λ l. l.segments) b.ledger ∙ segments-begun b.block old

begun_shares : (tool : Tool) (max : ℕ) (isa : Isa) (m : Memory) (a : ℕ) (led ready last : Ledger) → HasBegun tool max isa m a led ready → SharesNoMore ready last → SharesNoMore led last
begun_shares tool max isa m a led ready last b shares x block is = ap (λ s. fin.get s x) (sym (ap (λ (l : Ledger). l.shared) b.ledger ∙ shared-begun b.block led)) ∙ shares x block is

pub begun-mapped : (tool : Tool) (max : ℕ) (isa : Isa) (m : Memory) (a : ℕ) (old new : Ledger) → HasBegun tool max isa m a old new → AreMapped m old → AreMapped m new
begun-mapped tool max isa m a old new b mapped = mapped-segments m old new (begun_segments tool max isa m a old new b) mapped

-- ---- no stop comes first

room_by : (b : Bool) → ◌≡◌ {A = Option Stop} (if b then Some stop.PoolFull else None) None → b ≡ false
room_by true e = absurd (cc)
room_by false e = refl

with_word : (pool : ℕ) (p : Process) (r : Result ℕ Access) → stop_with pool p r ≡ None → wants_room pool p.ledger p.state.cpu.pc ≡ false
with_word pool p (Ok word) e = room_by (wants_room pool p.ledger p.state.cpu.pc) e
with_word pool p (Err a) e = absurd (cc)

some_word : (pool : ℕ) (p : Process) (r : Result ℕ Access) → stop_with pool p r ≡ None → (word : ℕ) × (r ≡ Ok word)
some_word pool p (Ok word) e = (word, refl)
some_word pool p (Err a) e = absurd (cc)

pub record Begins (pool : ℕ) (p : Process) : Type 0 where
  pub fuel : 0 < p.fuel
  pub fetches : (word : ℕ) × (fetched p.state.memory p.state.cpu.pc ≡ Ok word)
  pub room : wants_room pool p.ledger p.state.cpu.pc ≡ false

fuel_some : (n : ℕ) → (n == 0) ≡ false → 0 < n
fuel_some n e = grind (arith, nat_tests)

pub no-stop : (pool : ℕ) (p : Process) → stop_of pool p ≡ None → Begins pool p
no-stop pool p e = elim (cases_Bool (p.fuel == 0)) [
  | inl spent ↦ let impossible = rw spent at e in absurd (cc)
  | inr some ↦
      let there : stop_with pool p (fetched p.state.memory p.state.cpu.pc) ≡ None = rw some at e in
      record { fuel = fuel_some p.fuel some; fetches = some_word pool p (fetched p.state.memory p.state.cpu.pc) there; room = with_word pool p (fetched p.state.memory p.state.cpu.pc) there }
]

-- ---- a stop comes first, or none does

pub stop-first : (pool : ℕ) (p : Process) (o : Option Stop) → p.fuel ≢ 0 → o ≡ stop_at pool p.ledger p.state.cpu.pc (fetched p.state.memory p.state.cpu.pc) → stop_of pool p ≡ o
stop-first pool p o some is =
    let fuel : (p.fuel == 0) ≡ false = grind (arith, nat_tests) in
    rw fuel (sym is)

-- it began, where none does
pub begun-then : (tool told : Tool) (max : ℕ) (isa : Isa) (m : Memory) (a : ℕ) (old new : Ledger) (o : Option Stop) → tool ≡ told → o ≡ None → IfNone o (HasBegun tool max isa m a old new) → HasBegun told max isa m a old new
begun-then tool told max isa m a old new None same is b = subst (λ t. HasBegun t max isa m a old new) same b
begun-then tool told max isa m a old new (Some s) same is b = absurd (cc)

-- nothing changed, where one does
pub same-then : (old new : Ledger) (o : Option Stop) (s : Stop) → o ≡ Some s → IfSome o (λ x. new ≡ old) → new ≡ old
same-then old new (Some x) s is same = same
same-then old new None s is same = absurd (cc)

room_well : (b : Bool) (s : Stop) (io : Io) → ◌≡◌ {A = Option Stop} (if b then Some stop.PoolFull else None) (Some s) → StopsWell (Some s) io
room_well true s io is = subst (λ x. StopsWell (Some x) io) (same_Some stop.PoolFull s is) tt
room_well false s io is = absurd (cc)

pub stops-well : (pool : ℕ) (led : Ledger) (pc : ℕ) (r : Result ℕ Access) (s : Stop) (io : Io) → stop_at pool led pc r ≡ Some s → StopsWell (Some s) io
stops-well pool led pc (Ok word) s io is = room_well (wants_room pool led pc) s io is
stops-well pool led pc (Err e) s io is = subst (λ x. StopsWell (Some x) io) (same_Some (stop.Ended (ends.Fault kinds.Fetch pc)) s is) tt

-- the begin is that of the ledger's definition
pub begins-so : (scheme : Scheme) (p : Process) (tool : Tool) (max : ℕ) (isa : Isa) (m : Memory) (new : Ledger) → wants_room scheme.pool p.ledger p.state.cpu.pc ≡ false → (b : HasBegun tool max isa m p.state.cpu.pc p.ledger new) →
    BlockBegins scheme b.block p.ledger new
begins-so scheme p tool max isa m new room b maps units requests =
    let none : wants_room scheme.pool p.ledger b.block.address ≡ false = subst (λ x. wants_room scheme.pool p.ledger x ≡ false) (sym b.at) room in
    let ledger : with_block scheme (Some b.block) p.ledger ≡ new = ap (λ t. begun b.block (if t then flushed (all_offered (fin.keys p.ledger.segments) p.ledger) else p.ledger)) none ∙ sym b.ledger in
    let asks : requests ++ room_asks scheme (Some b.block) p.ledger ≡ requests = ap (λ t. requests ++ (if t then offers (fin.keys p.ledger.segments) p.ledger else [])) none ∙ append-nil requests in
    ap (λ l. trace l maps units (requests ++ room_asks scheme (Some b.block) p.ledger)) ledger ∙ ap (trace new maps units) asks

-- ---- a block was run

pub same-images : (led last : Ledger) → last.segments ≡ led.segments → (i : ℕ) → image_at last i ≡ image_at led i
same-images led last same i = ap (λ s. option_map (λ (x : Segment). x.image) (fin.get s i)) same

abbrev pub told_scheme : Scheme → Process → Scheme
told_scheme scheme p = record { tool = p.report.tool; max = scheme.max; pool = scheme.pool }

pub record AfterBlock (scheme : Scheme) (old new : Process) (r : Ran) : Type 0 where
  pub came : RanBlock scheme old new r
  pub one : IsOneBlock scheme old new
  pub ready : IsReady (told_scheme scheme new) new
  pub keeps : Keeps old new

less_few : (a b c x y : ℕ) → x + a < 2 ^ 64 → b < a → y ≡ x + 1 → y + b < 2 ^ 64
less_few a b c x y few less one = omega arith

pub after-block : (scheme : Scheme) (cpu c : Cpu) (m after : Memory) (io : Io) (fuel rest : ℕ) (rows more : Rows) (led ready last : Ledger) (r : Ran) →
    IsReady scheme (process cpu m io fuel rows led) → scheme.tool ≡ rows.tool → stop_of scheme.pool (process cpu m io fuel rows led) ≡ None → HasBegun rows.tool scheme.max cpu.isa m cpu.pc led ready →
    ((s : Scheme) (i : Io) (l : Ledger) (block : Parts) → s.tool ≡ rows.tool → s.max ≡ scheme.max → view ready cpu.pc ≡ Some block → BlockBegins s block l ready → RanBlock s (process cpu m i fuel rows l) (process c after i rest more last) r) →
    AreFresh rows.tool scheme.max c.isa after last → AreMapped after last → SharesNoMore ready last → SameRegions m after → last.segments ≡ ready.segments → last.counts ≡ ready.counts → c.pc % 4 ≡ 0 → rest < fuel → ((key : ℕ) → count_at more.counts key + rest < 2 ^ 64) → more.tool ≡ rows.tool → c.isa ≡ cpu.isa →
    AfterBlock scheme (process cpu m io fuel rows led) (process c after io rest more last) r
after-block scheme cpu c m after io fuel rest rows more led ready last r was tool none b ran fresh mapped shares regions segments counts even less small same_tool same_isa =
    let begins = no-stop scheme.pool (process cpu m io fuel rows led) none in
    let one : last.counts.blocks ≡ led.counts.blocks + 1 = ap (λ k. k.blocks) counts ∙ ap (λ l. l.counts.blocks) b.ledger ∙ one-more b.block led in
    record {
      came = ran scheme io led b.block tool refl b.ready (begins-so scheme (process cpu m io fuel rows led) rows.tool scheme.max cpu.isa m ready begins.room b);
      one = record { begins = none; less = less; one = one };
      ready = record {
        aligned = even;
        fresh = subst (λ t. AreFresh t scheme.max c.isa after last) (sym same_tool) fresh;
        mapped = mapped;
        units = subst (λ i. AreOfUnits more.tool scheme.max i last) (sym same_isa) (subst (λ t. AreOfUnits t scheme.max cpu.isa last) (tool ∙ sym same_tool)
            (units-kept scheme.tool scheme.max cpu.isa led last (segments ∙ begun_segments rows.tool scheme.max cpu.isa m cpu.pc led ready b) (begun_shares rows.tool scheme.max cpu.isa m cpu.pc led ready last b shares) was.units));
        inert = heap-kept m after io.heap regions was.inert;
        small = small;
        few = less_few fuel rest 0 led.counts.blocks last.counts.blocks was.few less one;
      };
      keeps = record {
        images = same-images led last (segments ∙ begun_segments rows.tool scheme.max cpu.isa m cpu.pc led ready b);
        mapped = refl;
        isa = same_isa;
        stand = stand-same m after io.heap regions;
      };
    }

-- ---- and the call behind it was done

pub record AfterCall (scheme : Scheme) (old new : Process) (s : Option Stop) : Type 0 where
  pub ends : CallEnds scheme old new s
  pub one : IsOneBlock scheme old new
  pub ready : IsReady (told_scheme scheme new) new
  pub keeps : Keeps old new
  pub asks : StopsWell s new.state.io

pub after-call : (scheme : Scheme) (old : Process) (cpu c : Cpu) (m after : Memory) (io now : Io) (fuel : ℕ) (rows : Rows) (led last : Ledger) (s : Option Stop) → 0 < scheme.max → AfterBlock scheme old (process cpu m io fuel rows led) ran.Asks →
    CallDone (process cpu m io fuel rows led) (process c after now fuel rows last) s → AfterCall scheme old (process c after now fuel rows last) s
after-call scheme old cpu c m after io now fuel rows led last s some b done = record {
  ends = done.ends scheme old b.came;
  one = record { begins = b.one.begins; less = b.one.less; one = ap (λ k. k.blocks) done.counts ∙ b.one.one };
  ready = record {
    aligned = done.aligned;
    fresh = done.fresh rows.tool scheme.max some b.ready.fresh;
    mapped = done.mapped b.ready.mapped;
    units = subst (λ i. AreOfUnits rows.tool scheme.max i last) (sym done.isa) (units-kept rows.tool scheme.max cpu.isa led last done.segments done.shares b.ready.units);
    inert = done.inert;
    small = b.ready.small;
    few = subst (λ k. k.blocks + fuel < 2 ^ 64) (sym done.counts) b.ready.few;
  };
  keeps = record {
    images = λ i. same-images led last done.segments i ∙ b.keeps.images i;
    mapped = done.modules ∙ b.keeps.mapped;
    isa = done.isa ∙ b.keeps.isa;
    stand = λ x kind s. done.stand x kind (b.keeps.stand x kind s);
  };
  asks = done.asks;
}

pub call-advances : (scheme : Scheme) (old new : Process) (s : Option Stop) → AfterCall scheme old new s → Advances scheme old new s
call-advances scheme old new None b = (b.one, b.ends)
call-advances scheme old new (Some s) b = inr (b.one, b.ends)

-- ---- the blocks that were built

pub made-so : (led ready last : Ledger) (steps now : ℕ) (taken more : Taken) → AreMade led.counts.built ready.counts.built steps now taken more → last.counts ≡ ready.counts → AreMade led.counts.built last.counts.built steps now taken more
made-so led ready last steps now taken more made same = subst (λ n. AreMade led.counts.built n steps now taken more) (ap (λ k. k.built) (sym same)) made

-- ---- want of memory

live_block : (o : Option Parts) → is_some o ≡ true → (f : Parts) × (o ≡ Some f)
live_block None h = absurd (cc)
live_block (Some f) h = (f, refl)

-- what was live stands ready as it did before the begin
stood : (tool : Tool) (max : ℕ) (isa : Isa) (m : Memory) (a : ℕ) (led ready : Ledger) (block : Parts) → AreFresh tool max isa m led → HasBegun tool max isa m a led ready → view ready a ≡ Some block → is_live led a ≡ true → view led a ≡ Some block
stood tool max isa m a led ready block fresh b is live =
    let f = live_block (view led a) live in
    f.1 ∙ sym (fresh a f.0 f.1) ∙ b.fresh ∙ sym b.ready ∙ is

-- an event of the block has no row, or the block was built for this begin
pub lacks-so : (scheme : Scheme) (cpu : Cpu) (m : Memory) (io : Io) (fuel : ℕ) (rows : Rows) (led ready : Ledger) → IsReady scheme (process cpu m io fuel rows led) → scheme.tool ≡ rows.tool → stop_of scheme.pool (process cpu m io fuel rows led) ≡ None →
    HasBegun rows.tool scheme.max cpu.isa m cpu.pc led ready → LacksRow (process cpu m io fuel rows ready) → WantsMemory scheme (process cpu m io fuel rows led)
lacks-so scheme cpu m io fuel rows led ready was tool none b lacks = elim (cases_Bool (is_live led cpu.pc)) [
  | inr gone ↦ (none, inl gone)
  | inl live ↦
      let fresh = subst (λ t. AreFresh t scheme.max cpu.isa m led) tool was.fresh in
      (none, inr (inl (record { block = lacks.block; ready = stood rows.tool scheme.max cpu.isa m cpu.pc led ready lacks.block fresh b lacks.ready live; words = lacks.words; state = lacks.state; report = lacks.report; wants = lacks.wants })))
]

-- the block calls the system, or was built for this begin
pub calls-so : (scheme : Scheme) (cpu : Cpu) (m : Memory) (io : Io) (fuel : ℕ) (rows : Rows) (led ready : Ledger) → IsReady scheme (process cpu m io fuel rows led) → scheme.tool ≡ rows.tool → stop_of scheme.pool (process cpu m io fuel rows led) ≡ None →
    HasBegun rows.tool scheme.max cpu.isa m cpu.pc led ready → CallsSystem (process cpu m io fuel rows ready) → WantsMemory scheme (process cpu m io fuel rows led)
calls-so scheme cpu m io fuel rows led ready was tool none b calls = elim (cases_Bool (is_live led cpu.pc)) [
  | inr gone ↦ (none, inl gone)
  | inl live ↦
      let fresh = subst (λ t. AreFresh t scheme.max cpu.isa m led) tool was.fresh in
      (none, inr (inr (record { block = calls.block; ready = stood rows.tool scheme.max cpu.isa m cpu.pc led ready calls.block fresh b calls.ready live; words = calls.words; fuel = calls.fuel; state = calls.state; calls = calls.calls })))
]

pub gone-so : (scheme : Scheme) (old : Process) → stop_of scheme.pool old ≡ None → is_live old.ledger old.state.cpu.pc ≡ false → WantsMemory scheme old
gone-so scheme old none gone = (none, inl gone)

-- ---- what is told of a result

pub if_ok : {A E : Type 0} (r : Result A E) (P Q : A → Type 0) → ((x : A) → P x → Q x) → IfOk r P → IfOk r Q
if_ok (Ok x) P Q f p = f x p
if_ok (Err e) P Q f p = p

pub if_then : {A E : Type 0} (r : Result A E) (P : A → Type 0) (Q : Type 0) → ((x : A) → P x → Q) → IfOk r P → OnOk r Q
if_then (Ok x) P Q f p = f x p
if_then (Err e) P Q f p = p

pub any_err : {A E : Type 0} (r : Result A E) (P : Type 0) → P → OnErr r P
any_err (Ok x) P p = tt
any_err (Err e) P p = p

pub on_ok : {A E : Type 0} (r : Result A E) (P Q : Type 0) → (P → Q) → OnOk r P → OnOk r Q
on_ok (Ok x) P Q f p = f p
on_ok (Err e) P Q f p = p
