-- A module comes: what was ready stays so, and no live block begins in its code.
use Rattle.std.proofs.Common.{◌≡◌, ℕ, ◌+◌, ◌*◌, ◌/◌, ◌<◌, ◌≤◌, ◌%◌, ◌==◌, ◌&&◌, Bool, true, false, List, [], ◌∷◌, ◌++◌, length, Option, Some, None, Ok, refl, sym, ◌∙◌, ap, subst, arith, inl, inr, append_assoc}
use Rattle.std.specs.Prelude.{find, nat_le, nat_lt, is_some}
use Rattle.std.proofs.lemmas.Bool.{cases_Bool}
use Rattle.std.proofs.lemmas.Bool.Decides.{nat_tests}
use Rattle.cc_base.specs.Image.{Code}
use Rattle.rv_decode.specs.declared.ins.Isa.{Isa}
use Rattle.probe_tools.specs.declared.tool.Tool.{Tool}
use Rattle.plain_machine.specs.declared.io.Heap.{Heap}
use Rattle.plain_machine.specs.Region.{Area, meets}
use Rattle.plain_machine.specs.Memory.{Memory, IsMemory, has_code, as_code, code_at, code_of, refusal}
use Rattle.plain_machine.specs.Program.{Program, Segment, area_of, base_of, placed, top_of, with_segments}
use Rattle.plain_machine.specs.Machine.{State, heap_from}
use Rattle.fragment.specs.Parts.{Parts}
use Rattle.report.specs.Rows.{Rows}
use Rattle.engine.proofs.KeptCode.{and_right}
use Rattle.block_book.specs.Clauses.{IsClear}
use Rattle.block_ledger.specs.Ledger.{Ledger, is_live, view}
use Rattle.block_ledger.specs.Traced.{Scheme, built_in, codes_at, codes_of}
use Rattle.region_laws.specs.Heap.{HeapIsData}
use Rattle.region_laws.proofs.Regions.{find-more}
use Rattle.region_laws.proofs.Placing.{made, not_before, placed-grows, placed-stand, some_within, tail_of}
use Rattle.guest_proc.specs.Fresh.{AreFresh, AreMapped, AreOfUnits, block_in, extent}
use Rattle.guest_proc.specs.Kept.{IsReady}
use Rattle.guest_proc.specs.Maps.{AreClear, Enters, IsEntered, IsVacant, Places, Placing, StandsNow, entered_state, placed_state, put_to}
use Rattle.guest_proc.specs.Process.{Process}
use Rattle.guest_proc.proofs.Entering.{entry-aligned}

-- what is found first in the one is found first in the other
abbrev pub Grows : Memory → Memory → Type 0
Grows m after = (p : Area → Bool) (r : Area) → find p m ≡ Some r → find p after ≡ Some r

grows-placed : (program : Program) (base : ℕ) (m after : Memory) → placed program base m ≡ Ok after → Grows m after
grows-placed program base m after e p r found = placed-grows p m after (base_of program base) program.segments r e found

-- ---- what is kept

extent_by : (m after : Memory) (a : ℕ) (image : Code) (o : Option Area) → Grows m after → find (has_code a 1) m ≡ o → extent (as_code o) ≡ extent (Some image) → extent (code_at after a) ≡ extent (Some image)
extent_by m after a image None grows is e = absurd (cc)
extent_by m after a image (Some r) grows is e = ap (λ x. extent (as_code x)) (grows (has_code a 1) r is) ∙ e

mapped-grown : (m after : Memory) (led : Ledger) → Grows m after → AreMapped m led → AreMapped after led
mapped-grown m after led grows mapped i seg is = extent_by m after seg.image.start seg.image (find (has_code seg.image.start 1) m) grows refl (mapped i seg is)

module _ (tool : Tool) (max : ℕ) (isa : Isa) where
  fresh_by : (m after : Memory) (a : ℕ) (block : Parts) (o : Option Area) → Grows m after → find (has_code a 1) m ≡ o → built_in (as_code o) a isa tool max ≡ Some block → block_in tool max isa after a ≡ Some block
  fresh_by m after a block None grows is e = absurd (cc)
  fresh_by m after a block (Some r) grows is e = ap (λ x. built_in (as_code x) a isa tool max) (grows (has_code a 1) r is) ∙ e

  fresh-grown : (m after : Memory) (led : Ledger) → Grows m after → AreFresh tool max isa m led → AreFresh tool max isa after led
  fresh-grown m after led grows fresh a block is = fresh_by m after a block (find (has_code a 1) m) grows refl (fresh a block is)

  -- ---- no live block begins where no code was

  live_by : (m : Memory) (a : ℕ) (o : Option Parts) → ((block : Parts) → o ≡ Some block → block_in tool max isa m a ≡ Some block) → find (has_code a 1) m ≡ None → is_some o ≡ false
  live_by m a None fresh none = refl
  live_by m a (Some block) fresh none =
      let there : built_in (as_code (find (has_code a 1) m)) a isa tool max ≡ Some block = fresh block refl in
      let impossible = rw none at there in absurd (cc)

  not-live : (m : Memory) (a : ℕ) (led : Ledger) → AreFresh tool max isa m led → find (has_code a 1) m ≡ None → is_live led a ≡ false
  not-live m a led fresh none = live_by m a (view led a) (λ block is. fresh a block is) none

  inside_met : (a : ℕ) (q r : Area) → (nat_le r.start a && nat_lt a (r.start + length r.bytes)) ≡ true → meets a 1 q ≡ true → meets q.start (length q.bytes) r ≡ true
  inside_met a q r here met = grind (arith, nat_tests)

  -- a region behind others has none before it with code at a byte of its own
  none-before : (xs ys : Memory) (r : Area) (a : ℕ) → IsMemory (xs ++ r ∷ ys) → (nat_le r.start a && nat_lt a (r.start + length r.bytes)) ≡ true → find (has_code a 1) xs ≡ None
  none-before xs ys r a good here =
      not_before r (has_code a 1) (λ q more code. inside_met a q r here (and_right q.flags.execute (meets a 1 q) code)) xs ys good.disjoint good.in_range

  first_inside : (start len : ℕ) → 0 < len → (nat_le start start && nat_lt start (start + len)) ≡ true
  first_inside start len some = grind (arith, nat_tests)

  unattached_by : (m : Memory) (x : ℕ) (image : Code) → extent (code_at m image.start) ≡ extent (Some image) → image.start ≡ x → find (has_code x 1) m ≡ None → ⊥
  unattached_by m x image e same none =
      let none' : extent (code_at m image.start) ≡ None = ap (λ y. extent (code_at m y)) same ∙ ap (λ o. extent (as_code o)) none in
      let impossible = sym none' ∙ e in absurd (cc)

  -- a region behind others has no live block, and no attached segment starts where it does
  vacant : (xs ys : Memory) (r : Area) (led : Ledger) → IsMemory (xs ++ r ∷ ys) → AreFresh tool max isa xs led → AreMapped xs led → IsVacant (code_of r) led
  vacant xs ys r led good fresh mapped = record {
    clear = λ a here. not-live xs a led fresh (none-before xs ys r a good here);
    none = λ i seg is same. unattached_by xs r.start seg.image (mapped i seg is) same (none-before xs ys r r.start good (first_inside r.start (length r.bytes) (some_within r xs ys good.in_range)));
  }

  clear-all : (m after : Memory) (base : ℕ) (ss : List Segment) (led : Ledger) → IsMemory after → AreFresh tool max isa m led → AreMapped m led → with_segments m base ss ≡ Ok after → AreClear (codes_at base ss) led
  clear-all m after base [] led good fresh mapped e = tt
  clear-all m after base (s ∷ ss) led good fresh mapped e =
      let both = made (refusal m (base + s.vaddr) s.size) (with_segments (m ++ area_of base s ∷ []) base ss) after e in
      let rest = tail_of (m ++ area_of base s ∷ []) after base ss both.1 in
      let is : after ≡ m ++ area_of base s ∷ rest.0 = rest.1 ∙ append_assoc m (area_of base s ∷ []) rest.0 in
      let good' : IsMemory (m ++ area_of base s ∷ rest.0) = subst IsMemory is good in
      let more = clear-all (m ++ area_of base s ∷ []) after base ss led good (fresh-grown m (m ++ area_of base s ∷ []) led (λ p r. find-more p m (area_of base s) r) fresh)
      (mapped-grown m (m ++ area_of base s ∷ []) led (λ p r. find-more p m (area_of base s) r) mapped) both.1 in
      elim (cases_Bool s.flags.execute) [
        | inl runs ↦ rw runs (vacant m rest.0 (area_of base s) led good' fresh mapped, more)
        | inr off ↦ rw off more
      ]

-- ---- a process with a module more

-- in a state that has all code that there was
ready-in : (scheme : Scheme) (p : Process) (s : State) → IsReady scheme p → s.cpu.isa ≡ p.state.cpu.isa → Grows p.state.memory s.memory → HeapIsData s.io.heap s.memory → s.cpu.pc % 4 ≡ 0 → IsReady scheme (put_to p s p.ledger)
ready-in scheme p s ready isa grows inert aligned = record {
  aligned = aligned;
  fresh = subst (λ i. AreFresh scheme.tool scheme.max i s.memory p.ledger) (sym isa) (fresh-grown scheme.tool scheme.max p.state.cpu.isa p.state.memory s.memory p.ledger grows ready.fresh);
  mapped = mapped-grown p.state.memory s.memory p.ledger grows ready.mapped;
  units = subst (λ i. AreOfUnits scheme.tool scheme.max i p.ledger) (sym isa) ready.units;
  inert = inert;
  small = ready.small;
  few = ready.few;
}

pub ready-placed : (scheme : Scheme) (program : Program) (base k f : ℕ) (old new : Process) (b : Bool) → IsReady scheme old → Places program base k f old new b →
    (b ≡ true → StandsNow program base old.state.memory new.state.memory new.state.io.heap) → IsReady scheme new
ready-placed scheme program base k f old new true ready (m, e, is) stands =
    let s : State = placed_state old.state k f m in
    let inert : HeapIsData s.io.heap s.memory = subst (λ (p : Process). HeapIsData p.state.io.heap p.state.memory) is (stands refl).stand.inert in
    subst (IsReady scheme) (sym is) (ready-in scheme old s ready refl (grows-placed program base old.state.memory m e) inert ready.aligned)
ready-placed scheme program base k f old new false ready (e, refused, is) stands = subst (IsReady scheme) (sym is) ready

pub ready-entered : (scheme : Scheme) (program : Program) (base k f : ℕ) (old new : Process) (b : Bool) → IsReady scheme old → Enters program base k f old new b →
    (b ≡ true → StandsNow program base old.state.memory new.state.memory new.state.io.heap) → IsReady scheme new
ready-entered scheme program base k f old new true ready e stands =
    let s : State = entered_state old.state k f e.entry (top_of program base) e.memory in
    let inert : HeapIsData s.io.heap s.memory = subst (λ (p : Process). HeapIsData p.state.io.heap p.state.memory) e.becomes (stands refl).stand.inert in
    subst (IsReady scheme) (sym e.becomes) (ready-in scheme old s ready refl (grows-placed program base old.state.memory e.memory e.placed) inert (entry-aligned program base e.entry e.entered))
ready-entered scheme program base k f old new false ready (cannot, is) stands = subst (IsReady scheme) (sym is) ready

pub clear-placed : (scheme : Scheme) (program : Program) (base k f : ℕ) (old new : Process) (b : Bool) → IsReady scheme old → Places program base k f old new b →
    (b ≡ true → StandsNow program base old.state.memory new.state.memory new.state.io.heap) → b ≡ true → AreClear (codes_of program base) new.ledger
clear-placed scheme program base k f old new true ready (m, e, is) stands is_so =
    let good : IsMemory m = subst (λ (p : Process). IsMemory p.state.memory) is (stands refl).memory in
    subst (λ (p : Process). AreClear (codes_of program base) p.ledger) (sym is)
    (clear-all scheme.tool scheme.max old.state.cpu.isa old.state.memory m (base_of program base) program.segments old.ledger good ready.fresh ready.mapped e)
clear-placed scheme program base k f old new false ready p stands is_so = absurd (cc)

pub clear-entered : (scheme : Scheme) (program : Program) (base k f : ℕ) (old new : Process) (b : Bool) → IsReady scheme old → Enters program base k f old new b →
    (b ≡ true → StandsNow program base old.state.memory new.state.memory new.state.io.heap) → b ≡ true → AreClear (codes_of program base) new.ledger
clear-entered scheme program base k f old new true ready e stands is_so =
    let good : IsMemory e.memory = subst (λ (p : Process). IsMemory p.state.memory) e.becomes (stands refl).memory in
    subst (λ (p : Process). AreClear (codes_of program base) p.ledger) (sym e.becomes)
    (clear-all scheme.tool scheme.max old.state.cpu.isa old.state.memory e.memory (base_of program base) program.segments old.ledger good ready.fresh ready.mapped e.placed)
clear-entered scheme program base k f old new false ready p stands is_so = absurd (cc)

-- ---- as it is told of a file

-- a heap that is empty has no region
pub no-heap : (top : ℕ) (m : Memory) → HeapIsData (heap_from top) m
no-heap top m = elim (cases_Bool (nat_lt 4294967295 ((top + 15) / 16 * 16))) [
  | inl far ↦ rw far refl
  | inr near ↦ let self : (((top + 15) / 16 * 16) == ((top + 15) / 16 * 16)) ≡ true = grind (arith, nat_tests) in rw near (rw self refl)
]

pub stands-now : (program : Program) (base : ℕ) (m after : Memory) (heap : Option Heap) (b : Bool) → b ≡ true → Placing (placed program base m) m after b → (b ≡ true → top_of program base ≤ 4294967295) → IsMemory after → HeapIsData heap m →
    StandsNow program base m after heap
stands-now program base m after heap true is_so made top good h = record { top = top refl; memory = good; stand = placed-stand program base m after heap good h made }
stands-now program base m after heap false is_so made top good h = absurd (cc)

pub ready-came : (entered : Bool) (scheme : Scheme) (program : Program) (base k f : ℕ) (old new : Process) (b : Bool) → IsReady scheme old →
    (entered ≡ true → Places program base k f old new b) → (entered ≡ false → Enters program base k f old new b) → (b ≡ true → StandsNow program base old.state.memory new.state.memory new.state.io.heap) → IsReady scheme new
ready-came true scheme program base k f old new b ready p e stands = ready-placed scheme program base k f old new b ready (p refl) stands
ready-came false scheme program base k f old new b ready p e stands = ready-entered scheme program base k f old new b ready (e refl) stands

pub clear-came : (entered : Bool) (scheme : Scheme) (program : Program) (base k f : ℕ) (old new : Process) (b : Bool) → IsReady scheme old →
    (entered ≡ true → Places program base k f old new b) → (entered ≡ false → Enters program base k f old new b) → (b ≡ true → StandsNow program base old.state.memory new.state.memory new.state.io.heap) →
    b ≡ true → AreClear (codes_of program base) new.ledger
clear-came true scheme program base k f old new b ready p e stands is_so = clear-placed scheme program base k f old new b ready (p refl) stands is_so
clear-came false scheme program base k f old new b ready p e stands is_so = clear-entered scheme program base k f old new b ready (e refl) stands is_so

-- the scheme of a report, with these limits
abbrev pub scheme_in : ℕ → ℕ → Rows → Scheme
scheme_in max pool report = record { tool = report.tool; max = max; pool = pool }
