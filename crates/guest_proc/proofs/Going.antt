-- A module goes: what is not its own stays.
use Rattle.std.proofs.Common.{◌≡◌, ℕ, ◌+◌, ◌/◌, ◌==◌, ◌<◌, ◌&&◌, Bool, true, false, cond, List, [], ◌∷◌, length, Option, Some, None, refl, sym, ◌∙◌, ap, subst, arith, inl, inr}
use Rattle.std.specs.Prelude.{find, not, nat_lt, nat_le, if◌then◌else◌}
use Rattle.std.specs.List.{list_any}
use Rattle.std.specs.FinMap as fin
use Rattle.std.proofs.lemmas.Bool.{cases_Bool, or_parts}
use Rattle.std.proofs.lemmas.Bool.Decides.{nat_tests}
use Rattle.std.proofs.lemmas.Option.{same_Some}
use Rattle.cc_base.specs.Image.{Code}
use Rattle.rv_decode.specs.declared.ins.Isa.{Isa}
use Rattle.probe_tools.specs.declared.tool.Tool.{Tool}
use Rattle.plain_machine.specs.declared.io.Heap.{Heap}
use Rattle.plain_machine.specs.Region.{Area, meets}
use Rattle.plain_machine.specs.Memory.{Memory, IsMemory, AreDisjoint, AreInRange, has_code, starts_at, as_code, code_at, region_from, others, without_first}
use Rattle.plain_machine.specs.Io.{Io}
use Rattle.plain_machine.specs.Calls.{is_empty, is_module}
use Rattle.plain_machine.specs.Program.{Program, Segment, area_of, base_of, unplaced, without_segments}
use Rattle.fragment.specs.Parts.{Parts}
use Rattle.engine.specs.Standing.{shape}
use Rattle.engine.proofs.KeptCode.{found_is, and_left, and_right}
use Rattle.block_ledger.specs.Ledger.{Ledger, Segment as Attached, view, unmapped, is_within}
use Rattle.block_ledger.specs.Traced.{Scheme, built_in, codes_at, codes_of}
use Rattle.block_ledger.proofs.Views.{only-views}
use Rattle.block_ledger.proofs.Gets.{got-kept}
use Rattle.region_laws.specs.Heap.{HeapIsData, heap_at, runs_there}
use Rattle.region_laws.specs.Standing.{AllStand, Stands}
use Rattle.region_laws.proofs.Regions.{find-without, started}
use Rattle.guest_proc.specs.Fresh.{AreFresh, AreMapped, AreOfUnits, block_in, extent}
use Rattle.guest_proc.specs.Kept.{IsReady}
use Rattle.guest_proc.proofs.Kept.{shares-only}
use Rattle.guest_proc.specs.Maps.{IsPlaced, OthersStartElsewhere, put_to, unplaced_state}
use Rattle.guest_proc.specs.Process.{Process, process}

-- the region starts where one of the segments does
abbrev is_one : ℕ → List Segment → Area → Bool
is_one base ss r = list_any (λ s. starts_at (base + s.vaddr) r) ss

find-others : (p : Area → Bool) (m : Memory) (base : ℕ) (ss : List Segment) (r : Area) → find p m ≡ Some r → is_one base ss r ≡ false → find p (without_segments m base ss) ≡ Some r
find-others p m base [] r e clear = e
find-others p m base (s ∷ ss) r e clear =
    let parts = or_parts (starts_at (base + s.vaddr) r) (is_one base ss r) clear in
    find-others p (others m (base + s.vaddr)) base ss r (find-without p (starts_at (base + s.vaddr)) m r e parts.0) parts.1

-- ---- a region is the one that starts where it does

fails_found : (p q : Area → Bool) (xs : Memory) (x : Area) → find p xs ≡ Some x → list_any q xs ≡ false → q x ≡ false
fails_found p q [] x e f = absurd (cc)
fails_found p q (y ∷ ys) x e f =
    let parts = or_parts (q y) (list_any q ys) f in
    elim (cases_Bool (p y)) [
      | inl here ↦ let is : Some y ≡ Some x = rw here at e in subst (λ z. q z ≡ false) (same_Some y x is) parts.0
      | inr not_here ↦ let rest : find p ys ≡ Some x = rw not_here at e in fails_found p q ys x rest parts.1
    ]

some_found : (p : Area → Bool) (xs : Memory) (x : Area) → AreInRange xs → find p xs ≡ Some x → 0 < length x.bytes
some_found p [] x fits e = absurd (cc)
some_found p (y ∷ ys) x fits e = elim (cases_Bool (p y)) [
  | inl here ↦ let is : Some y ≡ Some x = rw here at e in subst (λ z. 0 < length z.bytes) (same_Some y x is) fits.0
  | inr not_here ↦ let rest : find p ys ≡ Some x = rw not_here at e in some_found p ys x fits.2 rest
]

first_byte : (q r : Area) → 0 < length q.bytes → 0 < length r.bytes → starts_at r.start q ≡ true → meets q.start (length q.bytes) r ≡ true
first_byte q r some more here = grind (arith, nat_tests)

found-start : (p : Area → Bool) (m : Memory) (r : Area) → AreDisjoint m → AreInRange m → find p m ≡ Some r → find (starts_at r.start) m ≡ Some r
found-start p [] r d fits e = absurd (cc)
found-start p (q ∷ qs) r d fits e = elim (cases_Bool (p q)) [
  | inl here ↦
      let is : Some q ≡ Some r = rw here at e in
      let same : q ≡ r = same_Some q r is in
      let self : starts_at r.start q ≡ true = subst (λ z. starts_at z.start q ≡ true) same (grind (arith, nat_tests)) in
      rw self is
  | inr not_here ↦
      let rest : find p qs ≡ Some r = rw not_here at e in
      elim (cases_Bool (starts_at r.start q)) [
        | inl wrong ↦
            let met : meets q.start (length q.bytes) r ≡ true = first_byte q r fits.0 (some_found p qs r fits.2 rest) wrong in
            let apart : meets q.start (length q.bytes) r ≡ false = fails_found p (meets q.start (length q.bytes)) qs r rest d.0 in
            absurd (cc)
        | inr right ↦ rw right (found-start p qs r d.1 fits.2 rest)
      ]
]

-- ---- code that is not the module's

within : (a start len : ℕ) (r : Area) → r.start ≡ start → length r.bytes ≡ len → meets a 1 r ≡ true → (nat_le start a && nat_lt a (start + len)) ≡ true
within a start len r same size met = grind (arith, nat_tests)

-- an executable region that starts where a segment does is that segment's
own : (m : Memory) (heap : Option Heap) (base a : ℕ) (s : Segment) (r : Area) → IsMemory m → find (has_code a 1) m ≡ Some r → Stands m heap (base + s.vaddr) (shape (Some (area_of base s))) → starts_at (base + s.vaddr) r ≡ true →
    (s.flags.execute ≡ true) × (length r.bytes ≡ length (area_of base s).bytes)
own m heap base a s r good is stands here =
    let at : r.start ≡ base + s.vaddr = started (base + s.vaddr) r here in
    let one : find (starts_at (base + s.vaddr)) m ≡ Some r = subst (λ x. find (starts_at x) m ≡ Some r) at (found-start (has_code a 1) m r good.disjoint good.in_range is) in
    let same : Some (r.flags.execute, length r.bytes) ≡ Some (s.flags.execute, length (area_of base s).bytes) = ap shape (sym one) ∙ stands.there in
    let pair = same_Some (r.flags.execute, length r.bytes) (s.flags.execute, length (area_of base s).bytes) same in
    (sym (ap (λ q. q.0) pair) ∙ and_left r.flags.execute (meets a 1 r) (found_is (has_code a 1) m r is), ap (λ q. q.1) pair)

not-own : (m : Memory) (heap : Option Heap) (base a : ℕ) (ss : List Segment) (r : Area) → IsMemory m → find (has_code a 1) m ≡ Some r → AllStand m heap base ss → is_within a (codes_at base ss) ≡ false → is_one base ss r ≡ false
not-own m heap base a [] r good is stand out = refl
not-own m heap base a (s ∷ ss) r good is stand out = elim (cases_Bool (starts_at (base + s.vaddr) r)) [
  | inl here ↦
      let o = own m heap base a s r good is stand.0 here in
      let met : meets a 1 r ≡ true = and_right r.flags.execute (meets a 1 r) (found_is (has_code a 1) m r is) in
      let yes = o.0 in
      let out' = rw yes at out in
      let inside = within a (base + s.vaddr) (length (area_of base s).bytes) r (started (base + s.vaddr) r here) o.1 met in
      let parts = or_parts (nat_le (base + s.vaddr) a && nat_lt a (base + s.vaddr + length (area_of base s).bytes)) (is_within a (codes_at base ss)) out' in
      absurd (cc)
  | inr apart ↦ rw apart (elim (cases_Bool s.flags.execute) [
    | inl runs ↦
        let out' = rw runs at out in
        let parts = or_parts (nat_le (base + s.vaddr) a && nat_lt a (base + s.vaddr + length (area_of base s).bytes)) (is_within a (codes_at base ss)) out' in
        not-own m heap base a ss r good is stand.1 parts.1
    | inr off ↦ let out' : is_within a (codes_at base ss) ≡ false = rw off at out in not-own m heap base a ss r good is stand.1 out'
  ])
]

chosen : (b : Bool) (o : Option Parts) (block : Parts) → (if b then o else None) ≡ Some block → (b ≡ true) × (o ≡ Some block)
chosen true o block e = (refl, e)
chosen false o block e = absurd (cc)

not_true : (b : Bool) → not b ≡ true → b ≡ false
not_true true e = absurd (cc)
not_true false e = refl

fresh_by : (tool : Tool) (max : ℕ) (isa : Isa) (m after : Memory) (a : ℕ) (block : Parts) (o : Option Area) → find (has_code a 1) m ≡ o → ((r : Area) → find (has_code a 1) m ≡ Some r → find (has_code a 1) after ≡ Some r) →
    built_in (as_code o) a isa tool max ≡ Some block → block_in tool max isa after a ≡ Some block
fresh_by tool max isa m after a block None is stays e = absurd (cc)
fresh_by tool max isa m after a block (Some r) is stays e = ap (λ x. built_in (as_code x) a isa tool max) (stays r is) ∙ e

module _ (m : Memory) (heap : Option Heap) (k : ℕ) (program : Program) (base : ℕ) (led : Ledger) (placed : IsPlaced m heap k program base led) where
  fresh-unplaced : (tool : Tool) (max : ℕ) (isa : Isa) → IsMemory m → AreFresh tool max isa m led → AreFresh tool max isa (unplaced program base m) (unmapped k (codes_of program base) led)
  fresh-unplaced tool max isa good fresh a block is =
      let both = chosen (not (is_within a (codes_of program base))) (view led a) block (sym (only-views (λ x. not (is_within x (codes_of program base))) led a) ∙ is) in
      let out : is_within a (codes_of program base) ≡ false = not_true (is_within a (codes_of program base)) both.0 in
      fresh_by tool max isa m (unplaced program base m) a block (find (has_code a 1) m) refl
      (λ r here. find-others (has_code a 1) m (base_of program base) program.segments r here (not-own m heap (base_of program base) a program.segments r good here placed.stand out))
      (fresh a block both.1)

  -- ---- the segments of other modules

  other_start : (i : ℕ) (at : ℕ) (ss : List Segment) (seg : Attached) (r : Area) → OthersStartElsewhere k at ss led → fin.get led.segments i ≡ Some seg → r.start ≡ seg.image.start → (i / 4 == k) ≡ false → is_one at ss r ≡ false
  other_start i at [] seg r alone is same other = refl
  other_start i at (s ∷ ss) seg r alone is same other = elim (cases_Bool (starts_at (at + s.vaddr) r)) [
    | inl here ↦ let own : (i / 4 == k) ≡ true = alone.0 i seg is (sym same ∙ started (at + s.vaddr) r here) in absurd (cc)
    | inr apart ↦ rw apart (other_start i at ss seg r alone.1 is same other)
  ]

  mapped_by : (after : Memory) (a : ℕ) (image : Code) (o : Option Area) → find (has_code a 1) m ≡ o → ((r : Area) → find (has_code a 1) m ≡ Some r → r.start ≡ image.start → find (has_code a 1) after ≡ Some r) → extent (as_code o) ≡ extent (Some image) →
      extent (code_at after a) ≡ extent (Some image)
  mapped_by after a image None is stays e = absurd (cc)
  mapped_by after a image (Some r) is stays e =
      let at : r.start ≡ image.start = ap (λ x. x.start) (same_Some (record { start = r.start; len = length r.bytes }) (record { start = image.start; len = length image.bytes }) e) in
      ap (λ x. extent (as_code x)) (stays r is at) ∙ e

  kept : {X : Type 0} (b : Bool) (o : Option X) (x : X) → cond b o None ≡ Some x → (b ≡ true) × (o ≡ Some x)
  kept true o x e = (refl, e)
  kept false o x e = absurd (cc)

  mapped-unplaced : AreMapped m led → AreMapped (unplaced program base m) (unmapped k (codes_of program base) led)
  mapped-unplaced mapped i seg is =
      let both = kept (not (i / 4 == k)) (fin.get led.segments i) seg (sym (got-kept led.segments (λ j. not (j / 4 == k)) i) ∙ is) in
      mapped_by (unplaced program base m) seg.image.start seg.image (find (has_code seg.image.start 1) m) refl
      (λ r here at. find-others (has_code seg.image.start 1) m (base_of program base) program.segments r here (other_start i (base_of program base) program.segments seg r placed.alone both.1 at (not_true (i / 4 == k) both.0)))
      (mapped i seg both.1)

-- ---- the heap

heap_start : (m : Memory) (heap : Option Heap) (base : ℕ) (ss : List Segment) (r : Area) → AllStand m heap base ss → heap_at heap ≡ Some r.start → is_one base ss r ≡ false
heap_start m heap base [] r stand is = refl
heap_start m heap base (s ∷ ss) r stand is = elim (cases_Bool (starts_at (base + s.vaddr) r)) [
  | inl here ↦ absurd (stand.0.apart (is ∙ ap Some (started (base + s.vaddr) r here)))
  | inr apart ↦ rw apart (heap_start m heap base ss r stand.1 is)
]

runs_by : (m after : Memory) (x : ℕ) (o : Option Area) → find (starts_at x) m ≡ o → ((r : Area) → find (starts_at x) m ≡ Some r → find (starts_at x) after ≡ Some r) → runs_there o ≡ Some false → runs_there (region_from after x) ≡ Some false
runs_by m after x None is stays e = absurd (cc)
runs_by m after x (Some r) is stays e = ap runs_there (stays r is) ∙ e

heap-unplaced : (m : Memory) (heap : Option Heap) (k : ℕ) (program : Program) (base : ℕ) (led : Ledger) → IsPlaced m heap k program base led → HeapIsData heap m → HeapIsData heap (unplaced program base m)
heap-unplaced m None k program base led placed h = refl
heap-unplaced m (Some heap) k program base led placed h = elim (cases_Bool (is_empty heap)) [
  | inl empty ↦ rw empty refl
  | inr full ↦
      let there : runs_there (region_from m heap.start) ≡ Some false = rw full at h in
      rw full (runs_by m (unplaced program base m) heap.start (find (starts_at heap.start) m) refl
      (λ r here.
      let at : r.start ≡ heap.start = started heap.start r (found_is (starts_at heap.start) m r here) in
      let is : heap_at (Some heap) ≡ Some r.start = rw full (ap Some (sym at)) in
      find-others (starts_at heap.start) m (base_of program base) program.segments r here (heap_start m (Some heap) (base_of program base) program.segments r placed.stand is))
      there)
]

-- ---- the units

got_value : {X : Type 0} (b : Bool) (o : Option X) (x : X) → cond b o None ≡ Some x → o ≡ Some x
got_value true o x e = e
got_value false o x e = absurd (cc)

units-unplaced : (tool : Tool) (max : ℕ) (isa : Isa) (k : ℕ) (codes : List Code) (led : Ledger) → AreOfUnits tool max isa led → AreOfUnits tool max isa (unmapped k codes led)
units-unplaced tool max isa k codes led units =
    let was = λ (i : ℕ) (seg : Attached) (is : fin.get (unmapped k codes led).segments i ≡ Some seg). got_value (not (i / 4 == k)) (fin.get led.segments i) seg (sym (got-kept led.segments (λ j. not (j / 4 == k)) i) ∙ is) in
    record {
      have = λ i seg a is has. units.have i seg a (was i seg is) has;
      stand = λ i seg a block is has there. units.stand i seg a block (was i seg is) has (shares-only (λ x. not (is_within x codes)) led a block there);
    }

-- ---- the process

pub ready-unplaced : (scheme : Scheme) (p : Process) (k : ℕ) (program : Program) (base : ℕ) → IsMemory p.state.memory → IsPlaced p.state.memory p.state.io.heap k program base p.ledger → IsReady scheme p →
    IsReady scheme (put_to p (unplaced_state p.state k program base) (unmapped k (codes_of program base) p.ledger))
ready-unplaced scheme p k program base good placed ready = record {
  aligned = ready.aligned;
  fresh = fresh-unplaced p.state.memory p.state.io.heap k program base p.ledger placed scheme.tool scheme.max p.state.cpu.isa good ready.fresh;
  mapped = mapped-unplaced p.state.memory p.state.io.heap k program base p.ledger placed ready.mapped;
  units = units-unplaced scheme.tool scheme.max p.state.cpu.isa k (codes_of program base) p.ledger ready.units;
  inert = heap-unplaced p.state.memory p.state.io.heap k program base p.ledger placed ready.inert;
  small = ready.small;
  few = ready.few;
}

pub gone-so : (p : Process) (k : ℕ) (program : Program) (base : ℕ) (m : Memory) (io : Io) (led : Ledger) → m ≡ unplaced program base p.state.memory → io ≡ record p.state.io { mapped = without_first (is_module k) p.state.io.mapped } →
    led ≡ unmapped k (codes_of program base) p.ledger →
    process p.state.cpu m io p.fuel p.report led ≡ put_to p (unplaced_state p.state k program base) (unmapped k (codes_of program base) p.ledger)
gone-so p k program base m io led memory others ledger = rw (memory, others, ledger) refl
