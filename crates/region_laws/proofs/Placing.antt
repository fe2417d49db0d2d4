-- A program was placed: its regions stand, and its code is there.
use Rattle.std.proofs.Common.{◌≡◌, ℕ, ◌+◌, ◌<◌, Bool, true, false, List, [], ◌∷◌, ◌++◌, length, Option, Some, None, Result, Ok, refl, sym, ◌∙◌, ap, subst, arith, inl, inr, append_assoc}
use Rattle.std.specs.Prelude.{find}
use Rattle.std.specs.List.{list_any}
use Rattle.std.proofs.lemmas.Bool.{cases_Bool, or_parts}
use Rattle.std.proofs.lemmas.Bool.Decides.{nat_tests}
use Rattle.std.proofs.lemmas.List.{append-nil}
use Rattle.std.proofs.lemmas.Option.{same_Some}
use Rattle.plain_machine.specs.declared.access.MemErr.{MemErr}
use Rattle.plain_machine.specs.declared.io.Heap.{Heap}
use Rattle.plain_machine.specs.Region.{Area, meets}
use Rattle.plain_machine.specs.Memory.{Memory, IsMemory, AreDisjoint, AreInRange, has_code, starts_at, as_code, region_from, refusal}
use Rattle.plain_machine.specs.Calls.{is_empty}
use Rattle.plain_machine.specs.Program.{Segment, area_of, base_of, with_segments, unless}
use Rattle.engine.proofs.KeptCode.{and_right}
use Rattle.engine.specs.Standing.{shape}
use Rattle.region_laws.specs.Heap.{HeapIsData, runs_there, heap_at}
use Rattle.block_ledger.specs.Traced.{codes_at}
use Rattle.region_laws.specs.Standing.{AllStand, AreThere, StandOn}
use Rattle.region_laws.specs.Laws.{PlacedStand}
use Rattle.region_laws.proofs.Regions.{find-more, own_start, shape-by}

-- ---- a memory that has a region between others

module _ (r : Area) where
  any_in : (p : Area → Bool) (xs ys : Memory) → list_any p (xs ++ r ∷ ys) ≡ false → p r ≡ false
  any_in p [] ys e = (or_parts (p r) (list_any p ys) e).0
  any_in p (q ∷ xs) ys e = any_in p xs ys (or_parts (p q) (list_any p (xs ++ r ∷ ys)) e).1

  pub some_within : (xs ys : Memory) → AreInRange (xs ++ r ∷ ys) → 0 < length r.bytes
  some_within [] ys fits = fits.0
  some_within (q ∷ xs) ys fits = some_within xs ys fits.2

  -- no region before it meets it
  pub not_before : (t : Area → Bool) (h : (q : Area) → 0 < length q.bytes → t q ≡ true → meets q.start (length q.bytes) r ≡ true) (xs ys : Memory) → AreDisjoint (xs ++ r ∷ ys) → AreInRange (xs ++ r ∷ ys) → find t xs ≡ None
  not_before t h [] ys d fits = refl
  not_before t h (q ∷ xs) ys d fits = elim (cases_Bool (t q)) [
    | inl here ↦ let met = h q fits.0 here in let apart = any_in (meets q.start (length q.bytes)) xs ys d.0 in absurd (cc)
    | inr other ↦ rw other (not_before t h xs ys d.1 fits.2)
  ]

  find_at : (t : Area → Bool) (xs ys : Memory) → find t xs ≡ None → t r ≡ true → find t (xs ++ r ∷ ys) ≡ Some r
  find_at t [] ys none here = rw here refl
  find_at t (q ∷ xs) ys none here = elim (cases_Bool (t q)) [
    | inl wrong ↦ let impossible = rw wrong at none in absurd (cc)
    | inr other ↦ let rest : find t xs ≡ None = rw other at none in rw other (find_at t xs ys rest here)
  ]

start_met : (q r : Area) → 0 < length r.bytes → 0 < length q.bytes → starts_at r.start q ≡ true → meets q.start (length q.bytes) r ≡ true
start_met q r some more here = grind (arith, nat_tests)

code_met : (q r : Area) → 0 < length r.bytes → meets r.start 1 q ≡ true → meets q.start (length q.bytes) r ≡ true
code_met q r some here = grind (arith, nat_tests)

own_byte : (r : Area) → 0 < length r.bytes → meets r.start 1 r ≡ true
own_byte r some = grind (arith, nat_tests)

-- none starts there before it
pub none-starts : (xs ys : Memory) (r : Area) → IsMemory (xs ++ r ∷ ys) → find (starts_at r.start) xs ≡ None
none-starts xs ys r good = not_before r (starts_at r.start) (λ q more here. start_met q r (some_within r xs ys good.in_range) more here) xs ys good.disjoint good.in_range

region-there : (xs ys : Memory) (r : Area) → IsMemory (xs ++ r ∷ ys) → region_from (xs ++ r ∷ ys) r.start ≡ Some r
region-there xs ys r good = find_at r (starts_at r.start) xs ys (none-starts xs ys r good) (own_start r)

code-there : (xs ys : Memory) (r : Area) → IsMemory (xs ++ r ∷ ys) → r.flags.execute ≡ true → find (has_code r.start 1) (xs ++ r ∷ ys) ≡ Some r
code-there xs ys r good runs =
    let some = some_within r xs ys good.in_range in
    let met = own_byte r some in
    find_at r (has_code r.start 1) xs ys
    (not_before r (has_code r.start 1) (λ q more here. code_met q r some (and_right q.flags.execute (meets r.start 1 q) here)) xs ys good.disjoint good.in_range)
    (rw runs met)

-- ---- all segments

pub made : (o : Option MemErr) (r : Result Memory MemErr) (after : Memory) → unless o r ≡ Ok after → (o ≡ None) × (r ≡ Ok after)
made None r after e = (refl, e)
made (Some x) r after e = absurd (cc)

pub same_ok : (a b : Memory) → ◌≡◌ {A = Result Memory MemErr} (Ok a) (Ok b) → a ≡ b
same_ok a b e = cc

-- what was placed stands behind what there was
pub tail_of : (m after : Memory) (base : ℕ) (ss : List Segment) → with_segments m base ss ≡ Ok after → (ys : Memory) × (after ≡ m ++ ys)
tail_of m after base [] e = ([], sym (same_ok m after e) ∙ sym (append-nil m))
tail_of m after base (s ∷ ss) e =
    let both = made (refusal m (base + s.vaddr) s.size) (with_segments (m ++ area_of base s ∷ []) base ss) after e in
    let rest = tail_of (m ++ area_of base s ∷ []) after base ss both.1 in
    (area_of base s ∷ rest.0, rest.1 ∙ append_assoc m (area_of base s ∷ []) rest.0)

-- ---- what was found is found in a memory that grew

pub grows : (p : Area → Bool) (m ys : Memory) (q : Area) → find p m ≡ Some q → find p (m ++ ys) ≡ Some q
grows p [] ys q e = absurd (cc)
grows p (x ∷ xs) ys q e = elim (cases_Bool (p x)) [
  | inl here ↦ let is : Some x ≡ Some q = rw here at e in rw here is
  | inr other ↦ let rest : find p xs ≡ Some q = rw other at e in rw other (grows p xs ys q rest)
]

pub placed-grows : (p : Area → Bool) (m after : Memory) (base : ℕ) (ss : List Segment) (q : Area) → with_segments m base ss ≡ Ok after → find p m ≡ Some q → find p after ≡ Some q
placed-grows p m after base ss q e found = let rest = tail_of m after base ss e in subst (λ x. find p x ≡ Some q) (sym rest.1) (grows p m rest.0 q found)

runs_some : (o : Option Area) (b : Bool) → runs_there o ≡ Some b → (r : Area) × (o ≡ Some r)
runs_some None b e = absurd (cc)
runs_some (Some r) b e = (r, refl)

pub heap-grown : (m after : Memory) (heap : Option Heap) → ((p : Area → Bool) (q : Area) → find p m ≡ Some q → find p after ≡ Some q) → HeapIsData heap m → HeapIsData heap after
heap-grown m after None more h = refl
heap-grown m after (Some heap) more h = elim (cases_Bool (is_empty heap)) [
  | inl empty ↦ rw empty refl
  | inr full ↦
      let there : runs_there (region_from m heap.start) ≡ Some false = rw full at h in
      let one = runs_some (region_from m heap.start) false there in
      rw full (ap runs_there (more (starts_at heap.start) one.0 one.1) ∙ ap runs_there (sym one.1) ∙ there)
]

-- ---- the heap's region is another

heap_there : (m : Memory) (heap : Option Heap) (x : ℕ) → HeapIsData heap m → heap_at heap ≡ Some x → runs_there (region_from m x) ≡ Some false
heap_there m None x h e = absurd (cc)
heap_there m (Some heap) x h e = elim (cases_Bool (is_empty heap)) [
  | inl empty ↦ let wrong = rw empty at e in absurd (cc)
  | inr full ↦
      let is : Some heap.start ≡ Some x = rw full at e in
      let there : runs_there (region_from m heap.start) ≡ Some false = rw full at h in
      subst (λ y. runs_there (region_from m y) ≡ Some false) (same_Some heap.start x is) there
]

no_heap : (m : Memory) (heap : Option Heap) (x : ℕ) → find (starts_at x) m ≡ None → HeapIsData heap m → heap_at heap ≡ Some x → ⊥
no_heap m heap x none h e = let there : runs_there (region_from m x) ≡ Some false = heap_there m heap x h e in let gone = ap runs_there none in absurd (cc)

pub stand-all : (m after : Memory) (heap : Option Heap) (base : ℕ) (ss : List Segment) → IsMemory after → HeapIsData heap m → with_segments m base ss ≡ Ok after → AllStand after heap base ss
stand-all m after heap base [] good h e = tt
stand-all m after heap base (s ∷ ss) good h e =
    let both = made (refusal m (base + s.vaddr) s.size) (with_segments (m ++ area_of base s ∷ []) base ss) after e in
    let rest = tail_of (m ++ area_of base s ∷ []) after base ss both.1 in
    let is : after ≡ m ++ area_of base s ∷ rest.0 = rest.1 ∙ append_assoc m (area_of base s ∷ []) rest.0 in
    let good' : IsMemory (m ++ area_of base s ∷ rest.0) = subst IsMemory is good in (
      record {
        there = ap (λ x. shape (region_from x (base + s.vaddr))) is ∙ ap shape (region-there m rest.0 (area_of base s) good');
        apart = no_heap m heap (base + s.vaddr) (none-starts m rest.0 (area_of base s) good') h;
      },
      stand-all (m ++ area_of base s ∷ []) after heap base ss good (heap-grown m (m ++ area_of base s ∷ []) heap (λ p q. find-more p m (area_of base s) q) h) both.1,
    )

pub there-all : (m after : Memory) (base : ℕ) (ss : List Segment) → IsMemory after → with_segments m base ss ≡ Ok after → AreThere (codes_at base ss) after
there-all m after base [] good e = tt
there-all m after base (s ∷ ss) good e =
    let both = made (refusal m (base + s.vaddr) s.size) (with_segments (m ++ area_of base s ∷ []) base ss) after e in
    let rest = tail_of (m ++ area_of base s ∷ []) after base ss both.1 in
    let is : after ≡ m ++ area_of base s ∷ rest.0 = rest.1 ∙ append_assoc m (area_of base s ∷ []) rest.0 in
    let good' : IsMemory (m ++ area_of base s ∷ rest.0) = subst IsMemory is good in
    let more = there-all (m ++ area_of base s ∷ []) after base ss good both.1 in
    elim (cases_Bool s.flags.execute) [
      | inl runs ↦ rw runs (
        some_within (area_of base s) m rest.0 good'.in_range,
        ap (λ x. as_code (find (has_code (base + s.vaddr) 1) x)) is ∙ ap as_code (code-there m rest.0 (area_of base s) good' runs),
        more,
      )
      | inr off ↦ rw off more
    ]

stand_grown : (m after : Memory) (heap : Option Heap) → ((p : Area → Bool) (q : Area) → find p m ≡ Some q → find p after ≡ Some q) → StandOn m heap after heap
stand_grown m after heap more x kind s = record { there = shape-by m after x kind s.there (λ r e. more (starts_at x) r e); apart = s.apart }

pub placed-stand : PlacedStand
placed-stand program base m after heap good h e =
    let more : (p : Area → Bool) (q : Area) → find p m ≡ Some q → find p after ≡ Some q = λ p q found. placed-grows p m after (base_of program base) program.segments q e found in
    record {
      stand = stand-all m after heap (base_of program base) program.segments good h e;
      there = there-all m after (base_of program base) program.segments good e;
      inert = heap-grown m after heap more h;
      others = stand_grown m after heap more;
    }
