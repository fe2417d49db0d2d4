-- The end of the heap moves.
use Rattle.std.proofs.Common.{◌≡◌, ℕ, ◌-◌, ◌<◌, ◌≤◌, ◌==◌, Bool, true, false, [], ◌∷◌, ◌++◌, Option, Some, None, refl, sym, ◌∙◌, ap, arith, inl, inr}
use Rattle.std.specs.Prelude.{find}
use Rattle.std.proofs.lemmas.Bool.{cases_Bool}
use Rattle.std.proofs.lemmas.Bool.Decides.{nat_tests}
use Rattle.std.proofs.lemmas.Option.{same_Some}
use Rattle.plain_machine.specs.declared.io.Heap.{Heap}
use Rattle.plain_machine.specs.Region.{region_of}
use Rattle.plain_machine.specs.Memory.{Memory, IsMemory, refusal, region_from, starts_at, resized, data_flags}
use Rattle.plain_machine.specs.Calls.{is_empty, heap_refusal, with_heap}
use Rattle.engine.specs.Standing.{SameCode, SameRegions, shape}
use Rattle.region_laws.specs.Heap.{runs_there, HeapIsData, heap_at}
use Rattle.region_laws.specs.Standing.{Stands, StandOn}
use Rattle.region_laws.proofs.Regions.{code-new, code-resized, none-there, refusal-apart, runs-new, runs-lengthened, find-more, find-resized, same-runs, shape-by}

-- ---- the code

pub code-moved : (m : Memory) (heap : Heap) (len : ℕ) → HeapIsData (Some heap) m → SameCode m (with_heap m heap len)
code-moved m heap len h a = elim (cases_Bool (is_empty heap)) [
  | inl empty ↦ rw empty (elim (cases_Bool (len == 0)) [ inl none ↦ rw none refl | inr some ↦ rw some (code-new m heap.start len a) ])
  | inr full ↦ let there : runs_there (region_from m heap.start) ≡ Some false = rw full at h in rw full (code-resized m heap.start len there a)
]

-- ---- its region holds no code

pub heap-kept : (old new : Memory) (heap : Option Heap) → SameRegions old new → HeapIsData heap old → HeapIsData heap new
heap-kept old new None same h = refl
heap-kept old new (Some heap) same h = elim (cases_Bool (is_empty heap)) [
  | inl empty ↦ rw empty refl
  | inr full ↦ let there : runs_there (region_from old heap.start) ≡ Some false = rw full at h in rw full (same-runs (region_from new heap.start) (region_from old heap.start) (same heap.start) ∙ there)
]

pub heap-moved : (m : Memory) (heap : Heap) (x : ℕ) → IsMemory m → heap.start ≤ x → heap_refusal m heap (x - heap.start) ≡ None → HeapIsData (Some heap) m → HeapIsData (Some (record heap { end = x })) (with_heap m heap (x - heap.start))
heap-moved m heap x good low free h = elim (cases_Bool (heap.start == x)) [
  | inl none ↦ rw none refl
  | inr some ↦
      let more : 0 < x - heap.start = grind (arith, nat_tests) in
      let long : ((x - heap.start) == 0) ≡ false = grind (arith, nat_tests) in
      rw some (elim (cases_Bool (is_empty heap)) [
        | inl empty ↦
            let fits : refusal m heap.start (x - heap.start) ≡ None = rw empty at free in
            rw (empty, long) (runs-new m heap.start (x - heap.start) (none-there m heap.start (x - heap.start) good.in_range more (refusal-apart m heap.start (x - heap.start) fits)))
        | inr full ↦
            let there : runs_there (region_from m heap.start) ≡ Some false = rw full at h in
            rw (full, long) (runs-lengthened m heap.start (x - heap.start) (region_from m heap.start) refl there)
      ])
]

-- ---- the other regions stand

pub stand-same : (m after : Memory) (heap : Option Heap) → SameRegions m after → StandOn m heap after heap
stand-same m after heap same x kind s = record { there = same x ∙ s.there; apart = s.apart }

heap_some : (heap : Heap) (x : ℕ) → heap_at (Some heap) ≡ Some x → heap.start ≡ x
heap_some heap x e = elim (cases_Bool (is_empty heap)) [
  | inl empty ↦ let h = rw empty at e in absurd (cc)
  | inr full ↦ let h : Some heap.start ≡ Some x = rw full at e in same_Some heap.start x h
]

-- the heap gets its first bytes
stand-first : (m : Memory) (heap : Heap) (a x : ℕ) (kind : Bool × ℕ) → IsMemory m → is_empty heap ≡ true → 0 < a - heap.start → ((a - heap.start) == 0) ≡ false → heap_refusal m heap (a - heap.start) ≡ None →
    Stands m (Some heap) x (Some kind) → Stands (with_heap m heap (a - heap.start)) (Some (record heap { end = a })) x (Some kind)
stand-first m heap a x kind good empty more long free s =
    let fits : refusal m heap.start (a - heap.start) ≡ None = rw empty at free in
    let gone = none-there m heap.start (a - heap.start) good.in_range more (refusal-apart m heap.start (a - heap.start) fits) in
    record {
      there = rw (empty, long) (shape-by m (m ++ region_of heap.start data_flags [] (a - heap.start) ∷ []) x kind s.there (λ r e. find-more (starts_at x) m (region_of heap.start data_flags [] (a - heap.start)) r e));
      apart = λ e.
          let at : heap.start ≡ x = heap_some (record heap { end = a }) x e in
          let none : shape (region_from m x) ≡ None = ap (λ y. shape (find (starts_at y) m)) (sym at) ∙ ap shape gone in
          let impossible = sym none ∙ s.there in absurd (cc);
    }

pub stand-moved : (m : Memory) (heap : Heap) (a : ℕ) → IsMemory m → heap.start ≤ a → heap_refusal m heap (a - heap.start) ≡ None → StandOn m (Some heap) (with_heap m heap (a - heap.start)) (Some (record heap { end = a }))
stand-moved m heap a good low free x kind s = elim (cases_Bool (is_empty heap)) [
  | inl empty ↦ elim (cases_Bool ((a - heap.start) == 0)) [
    | inl none ↦
        let same : (heap.start == a) ≡ true = grind (arith, nat_tests) in
        record { there = rw (empty, none) s.there; apart = λ e. let h = rw same at e in absurd (cc) }
    | inr some ↦ let more : 0 < a - heap.start = grind (arith, nat_tests) in stand-first m heap a x kind good empty more some free s
  ]
  | inr full ↦
      let apart : heap.start ≡ x → ⊥ = λ e. s.apart (rw full (ap Some e)) in
      record {
        there = rw full (shape-by m (resized m heap.start (a - heap.start)) x kind s.there (λ r e. find-resized m heap.start (a - heap.start) x r apart e));
        apart = λ e. apart (heap_some (record heap { end = a }) x e);
      }
]
