-- A module comes.
use Rattle.std.proofs.Common.{◌≡◌, ℕ, zero, suc, ◌+◌, ◌/◌, ◌<◌, ◌==◌, ◌||◌, Bool, true, false, List, [], ◌∷◌, ◌++◌, Option, Some, None, Ok, refl, sym, ◌∙◌, ap, subst, arith, inl, inr, append_assoc}
use Rattle.std.specs.Prelude.{drop, find}
use Rattle.std.specs.List.{list_any}
use Rattle.std.specs.Option.{option_map}
use Rattle.std.specs.Ordering.{nat_cmp, eq_by_cmp}
use Rattle.std.specs.FinMap as fin
use Rattle.std.proofs.lemmas.Bool.{cases_Bool}
use Rattle.std.proofs.lemmas.Bool.Decides.{nat_tests}
use Rattle.std.proofs.lemmas.Option.{same_Some}
use Rattle.cc_base.specs.Image.{Code}
use Rattle.plain_machine.specs.declared.io.Heap.{Heap}
use Rattle.plain_machine.specs.declared.io.Mapping.{Mapping}
use Rattle.plain_machine.specs.Region.{Area}
use Rattle.plain_machine.specs.Memory.{Memory, IsMemory, refusal, region_from, starts_at, without_first}
use Rattle.plain_machine.specs.Calls.{is_mapped, is_module}
use Rattle.plain_machine.specs.Program.{Program, Segment as FileSegment, area_of, base_of, placed, with_segments}
use Rattle.plain_machine.specs.Machine.{Setting, base_at, file_at}
use Rattle.block_ledger.specs.Ledger.{Segment, segment_of}
use Rattle.block_ledger.specs.Traced.{codes_at, codes_of}
use Rattle.block_ledger.proofs.Gets.{got-empty, tied}
use Rattle.engine.specs.Standing.{shape}
use Rattle.region_laws.specs.Standing.{AllStand}
use Rattle.region_laws.proofs.Placing.{made, none-starts, tail_of}
use Rattle.guest_proc.specs.Kept.{image_at}
use Rattle.guest_proc.specs.Process.{Process}
use Rattle.module_laws.specs.Hosted.{AreHosted, ModuleStands, has_start, program_starts, starts_in}
use Rattle.module_laws.specs.Laws.{AttachHosts, CodesStart, EnterHosts, PlaceHosts}
use Rattle.module_laws.proofs.Lists.{find-last, find-less, find-more, module-of, none-some, once-last, once-other, or-more}
use Rattle.module_laws.proofs.Hosting.{image-else, image-same}

-- ---- its regions

-- none of the regions before starts where one of its segments does
none_placed : (m after : Memory) (base : ℕ) (ss : List FileSegment) (x : ℕ) → IsMemory after → with_segments m base ss ≡ Ok after → has_start base ss x ≡ true → find (starts_at x) m ≡ None
none_placed m after base [] x good e has = absurd (cc)
none_placed m after base (s ∷ ss) x good e has =
    let both = made (refusal m (base + s.vaddr) s.size) (with_segments (m ++ area_of base s ∷ []) base ss) after e in
    elim (cases_Bool (x == base + s.vaddr)) [
      | inl here ↦
          let at : base + s.vaddr ≡ x = grind (arith, nat_tests) in
          let rest = tail_of (m ++ area_of base s ∷ []) after base ss both.1 in
          let good' : IsMemory (m ++ area_of base s ∷ rest.0) = subst IsMemory (rest.1 ∙ append_assoc m (area_of base s ∷ []) rest.0) good in
          subst (λ y. find (starts_at y) m ≡ None) at (none-starts m rest.0 (area_of base s) good')
      | inr other ↦
          let later : has_start base ss x ≡ true = rw other at has in
          find-less (starts_at x) m (area_of base s ∷ []) (none_placed (m ++ area_of base s ∷ []) after base ss x good both.1 later)
    ]

pub shape-there : (o : Option Area) (kind : Bool × ℕ) → shape o ≡ Some kind → (r : Area) × (o ≡ Some r)
shape-there None kind e = absurd (cc)
shape-there (Some r) kind e = (r, refl)

-- a region is where a segment starts of a module that stands
start_there : (m : Memory) (heap : Option Heap) (base : ℕ) (ss : List FileSegment) (x : ℕ) → AllStand m heap base ss → has_start base ss x ≡ true → find (starts_at x) m ≡ None → ⊥
start_there m heap base [] x all has none = cc
start_there m heap base (s ∷ ss) x all has none = elim (cases_Bool (x == base + s.vaddr)) [
  | inl here ↦
      let at : x ≡ base + s.vaddr = grind (arith, nat_tests) in
      let gone : shape (region_from m (base + s.vaddr)) ≡ None = ap shape (subst (λ y. find (starts_at y) m ≡ None) at none) in
      let wrong = sym gone ∙ all.0.there in cc
  | inr other ↦ let later : has_start base ss x ≡ true = rw other at has in start_there m heap base ss x all.1 later none
]

stand_more : (m ys : Memory) (heap : Option Heap) (base : ℕ) (ss : List FileSegment) → AllStand m heap base ss → AllStand (m ++ ys) heap base ss
stand_more m ys heap base [] all = tt
stand_more m ys heap base (s ∷ ss) all =
    let one = shape-there (region_from m (base + s.vaddr)) _ all.0.there in
    (record { there = ap shape (find-more (starts_at (base + s.vaddr)) m ys one.0 one.1 ∙ sym one.1) ∙ all.0.there; apart = all.0.apart }, stand_more m ys heap base ss all.1)

-- ---- it is placed

pub starts-as : (w : Setting) (k f base x : ℕ) (program : Program) → base_at w k ≡ Some base → file_at w f ≡ Some program → starts_in w k f x ≡ has_start (base_of program base) program.segments x
starts-as w k f base x program at known = ap (λ p. program_starts p (base_at w k) x) known ∙ ap (λ b. program_starts (Some program) b x) at

-- what stands where regions were added behind
stands_more : (w : Setting) (k f : ℕ) (old new : Process) (ys : Memory) → new.state.memory ≡ old.state.memory ++ ys → new.state.io.heap ≡ old.state.io.heap → ModuleStands w k f old → ModuleStands w k f new
stands_more w k f old new ys more heap s = record {
  base = s.base;
  program = s.program;
  stands = s.stands;
  known = s.known;
  top = s.top;
  stand = subst (λ h. AllStand new.state.memory h (base_of s.program s.base) s.program.segments) (sym heap)
      (subst (λ m. AllStand m old.state.io.heap (base_of s.program s.base) s.program.segments) (sym more) (stand_more old.state.memory ys old.state.io.heap (base_of s.program s.base) s.program.segments s.stand));
}

abbrev one : ℕ → ℕ → Mapping
one k f = record { «module» = k; file = f }

-- no module that is mapped starts where the one does that comes
clash : (w : Setting) (k f base : ℕ) (program : Program) (old : Process) (after : Memory) → base_at w k ≡ Some base → file_at w f ≡ Some program → placed program base old.state.memory ≡ Ok after → IsMemory after → AreHosted w old →
    (j : ℕ) (a : Mapping) (x : ℕ) → find (is_module j) old.state.io.mapped ≡ Some a → starts_in w j a.file x ≡ true → starts_in w k f x ≡ true → ⊥
clash w k f base program old after at known made good h j a x is p q =
    let s = h.stands j a is in
    let its : has_start (base_of s.program s.base) s.program.segments x ≡ true = sym (starts-as w j a.file s.base x s.program s.stands s.known) ∙ p in
    let mine : has_start (base_of program base) program.segments x ≡ true = sym (starts-as w k f base x program at known) ∙ q in
    start_there old.state.memory old.state.io.heap (base_of s.program s.base) s.program.segments x s.stand its (none_placed old.state.memory after (base_of program base) program.segments x good made mine)

placed_hosts : (w : Setting) (k f base : ℕ) (program : Program) (old new : Process) → base_at w k ≡ Some base → file_at w f ≡ Some program → is_mapped old.state.io k ≡ false →
    placed program base old.state.memory ≡ Ok new.state.memory → new.state.io.mapped ≡ old.state.io.mapped ++ one k f ∷ [] → new.state.io.heap ≡ old.state.io.heap → new.ledger ≡ old.ledger →
    IsMemory new.state.memory → ModuleStands w k f new → AreHosted w old → AreHosted w new
placed_hosts w k f base program old new at known none made mapped heap led good stands h =
    let tail = tail_of old.state.memory new.state.memory (base_of program base) program.segments made in
    let meets = clash w k f base program old new.state.memory at known made good h in
    let found : (j : ℕ) (a : Mapping) → find (is_module j) new.state.io.mapped ≡ Some a → find (is_module j) (old.state.io.mapped ++ one k f ∷ []) ≡ Some a = λ j a is. ap (find (is_module j)) (sym mapped) ∙ is in
    record {
      once = λ j. ap (λ ms. find (is_module j) (without_first (is_module j) ms)) mapped ∙ elim (cases_Bool (is_module j (one k f))) [
        | inl same ↦ once-last (is_module j) old.state.io.mapped (one k f) (subst (λ i. list_any (is_module i) old.state.io.mapped ≡ false) (sym (module-of j k f same)) none) same
        | inr other ↦ once-other (is_module j) old.state.io.mapped (one k f) other (h.once j)
      ];
      stands = λ j a is. elim (find-last (is_module j) old.state.io.mapped (one k f) a (found j a is)) [
        | inl before ↦ stands_more w j a.file old new tail.0 tail.1 heap (h.stands j a before)
        | inr here ↦ subst (λ i. ModuleStands w i a.file new) (sym (module-of j k f here.0)) (subst (λ (b : Mapping). ModuleStands w k b.file new) here.1 stands)
      ];
      apart = λ j i a b x p q sa sb. elim (find-last (is_module j) old.state.io.mapped (one k f) a (found j a p)) [
        | inl pa ↦ elim (find-last (is_module i) old.state.io.mapped (one k f) b (found i b q)) [
          | inl pb ↦ h.apart j i a b x pa pb sa sb
          | inr nb ↦ absurd (meets j a x pa sa (subst (λ n. starts_in w n f x ≡ true) (module-of i k f nb.0) (subst (λ (c : Mapping). starts_in w i c.file x ≡ true) (sym nb.1) sb)))
        ]
        | inr na ↦ elim (find-last (is_module i) old.state.io.mapped (one k f) b (found i b q)) [
          | inl pb ↦ absurd (meets i b x pb sb (subst (λ n. starts_in w n f x ≡ true) (module-of j k f na.0) (subst (λ (c : Mapping). starts_in w j c.file x ≡ true) (sym na.1) sa)))
          | inr nb ↦ module-of j k f na.0 ∙ sym (module-of i k f nb.0)
        ]
      ];
      own = λ i code is.
          let o = h.own i code (ap (λ l. image_at l i) (sym led) ∙ is) in
          record { mapping = o.mapping; mapped = ap (find (is_module (i / 4))) mapped ∙ find-more (is_module (i / 4)) old.state.io.mapped (one k f ∷ []) o.mapping o.mapped; starts = o.starts };
    }

pub place-hosts : PlaceHosts
place-hosts w k f base program old new at known none p good stands h = placed_hosts w k f base program old new at known none
    (p.1 ∙ ap (λ (q : Process). Ok q.state.memory) (sym p.2))
    (ap (λ (q : Process). q.state.io.mapped) p.2) (ap (λ (q : Process). q.state.io.heap) p.2) (ap (λ (q : Process). q.ledger) p.2) good stands h

-- ---- it is entered

pub enter-hosts : EnterHosts
enter-hosts w k f base program old new b e stands =
    let mapped : new.state.io.mapped ≡ one k f ∷ [] = ap (λ (q : Process). q.state.io.mapped) e.becomes ∙ ap (λ ms. ms ++ one k f ∷ []) b.mapped in
    let found : (j : ℕ) (a : Mapping) → find (is_module j) new.state.io.mapped ≡ Some a → find (is_module j) (one k f ∷ []) ≡ Some a = λ j a is. ap (find (is_module j)) (sym mapped) ∙ is in
    let last : (j : ℕ) (a : Mapping) → find (is_module j) new.state.io.mapped ≡ Some a → (j ≡ k) × (one k f ≡ a) = λ j a is. elim (find-last (is_module j) [] (one k f) a (found j a is)) [
      | inl before ↦ absurd (none-some {A = Mapping} None a refl before)
      | inr here ↦ (module-of j k f here.0, here.1)
    ] in
    record {
      once = λ j. ap (λ ms. find (is_module j) (without_first (is_module j) ms)) mapped ∙ elim (cases_Bool (is_module j (one k f))) [
        | inl same ↦ once-last (is_module j) [] (one k f) refl same
        | inr other ↦ once-other (is_module j) [] (one k f) other refl
      ];
      stands = λ j a is. let at = last j a is in subst (λ i. ModuleStands w i a.file new) (sym at.0) (subst (λ (c : Mapping). ModuleStands w k c.file new) at.1 stands);
      apart = λ j i a c x p q sa sb. (last j a p).0 ∙ sym (last i c q).0;
      own = λ i code is.
          let led : new.ledger ≡ old.ledger = ap (λ (q : Process). q.ledger) e.becomes in
          absurd (none-some (image_at new.ledger i) code (ap (λ l. image_at l i) led ∙ ap (option_map (λ (x : Segment). x.image)) (ap (λ m. fin.get m i) b.segments ∙ got-empty {X = Segment} i)) is);
    }

-- ---- its segments are attached

quarter : (k seg i : ℕ) → seg < 4 → i ≡ segment_of k seg → i / 4 ≡ k
quarter k seg i small at = omega (arith, at)

pub attach-hosts : AttachHosts
attach-hosts w k seg base mapping program code unit old new mapped at known small starts is h = subst (AreHosted w) (sym is) (record {
  once = h.once;
  stands = λ j a found. let s = h.stands j a found in record { base = s.base; program = s.program; stands = s.stands; known = s.known; top = s.top; stand = s.stand };
  apart = h.apart;
  own = λ i c got. elim (cases_Bool (eq_by_cmp nat_cmp i (segment_of k seg))) [
    | inl same ↦
        let n : i / 4 ≡ k = quarter k seg i small (tied i (segment_of k seg) same) in
        let image : code ≡ c = same_Some code c (sym (image-same old.ledger.segments (segment_of k seg) i _ same) ∙ got) in
        let there : starts_in w k mapping.file c.start ≡ true = starts-as w k mapping.file base c.start program at known ∙ subst (λ (d : Code). has_start (base_of program base) program.segments d.start ≡ true) image starts in
        record { mapping = mapping; mapped = ap (λ j. find (is_module j) old.state.io.mapped) n ∙ mapped; starts = ap (λ j. starts_in w j mapping.file c.start) n ∙ there }
    | inr other ↦
        let o = h.own i c (sym (image-else old.ledger.segments (segment_of k seg) i _ other) ∙ got) in
        record { mapping = o.mapping; mapped = o.mapped; starts = o.starts }
  ];
})

-- each of these codes starts where a segment does
abbrev AllStart : ℕ → List FileSegment → List Code → Type 0
AllStart base ss [] = Unit {0}
AllStart base ss (c ∷ cs) = (has_start base ss c.start ≡ true) × AllStart base ss cs

start_more : (base : ℕ) (s : FileSegment) (ss : List FileSegment) (cs : List Code) → AllStart base ss cs → AllStart base (s ∷ ss) cs
start_more base s ss [] all = tt
start_more base s ss (c ∷ cs) all = (or-more (c.start == base + s.vaddr) _ all.0, start_more base s ss cs all.1)

codes_start : (base : ℕ) (ss : List FileSegment) → AllStart base ss (codes_at base ss)
codes_start base [] = tt
codes_start base (s ∷ ss) =
    let self : (base + s.vaddr == base + s.vaddr) ≡ true = grind (arith, nat_tests) in
    let rest = start_more base s ss (codes_at base ss) (codes_start base ss) in
    elim (cases_Bool s.flags.execute) [
      | inl runs ↦ rw runs (ap (λ b. b || list_any (λ t. base + s.vaddr == base + t.vaddr) ss) self, rest)
      | inr off ↦ rw off rest
    ]

nothing : (n : ℕ) → drop {A = Code} n [] ≡ []
nothing zero = refl
nothing (suc n) = refl

same_first : (d c : Code) (ds cs : List Code) → d ∷ ds ≡ c ∷ cs → d ≡ c
same_first d c ds cs e = cc

start_at : (base : ℕ) (ss : List FileSegment) (cs rest : List Code) (n : ℕ) (c : Code) → AllStart base ss cs → drop n cs ≡ c ∷ rest → has_start base ss c.start ≡ true
start_at base ss [] rest n c all e = let wrong : [] ≡ c ∷ rest = sym (nothing n) ∙ e in absurd (cc)
start_at base ss (d ∷ cs) rest zero c all e = subst (λ (x : Code). has_start base ss x.start ≡ true) (same_first d c cs rest e) all.0
start_at base ss (d ∷ cs) rest (suc n) c all e = start_at base ss cs rest n c all.1 e

pub codes-start : CodesStart
codes-start program base seg code is = start_at (base_of program base) program.segments (codes_of program base) (drop (seg + 1) (codes_of program base)) seg code (codes_start (base_of program base) program.segments) is
