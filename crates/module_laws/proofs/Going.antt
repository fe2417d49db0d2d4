-- A module goes.
use Rattle.std.proofs.Common.{◌≡◌, ℕ, ◌+◌, ◌/◌, ◌==◌, ◌||◌, Bool, true, false, cond, List, [], ◌∷◌, Option, Some, None, refl, sym, ◌∙◌, ap, subst, arith, inl, inr}
use Rattle.std.specs.Prelude.{find, not}
use Rattle.std.specs.List.{list_any}
use Rattle.std.specs.Option.{option_map}
use Rattle.std.specs.FinMap as fin
use Rattle.std.proofs.lemmas.Bool.{cases_Bool}
use Rattle.std.proofs.lemmas.Bool.Decides.{nat_tests}
use Rattle.std.proofs.lemmas.Option.{same_Some}
use Rattle.cc_base.specs.Image.{Code}
use Rattle.plain_machine.specs.declared.io.Heap.{Heap}
use Rattle.plain_machine.specs.declared.io.Mapping.{Mapping}
use Rattle.plain_machine.specs.Region.{Area}
use Rattle.plain_machine.specs.Memory.{Memory, others, region_from, starts_at}
use Rattle.plain_machine.specs.Calls.{is_module}
use Rattle.plain_machine.specs.Program.{Program, Segment as FileSegment, base_of, without_segments}
use Rattle.plain_machine.specs.Machine.{Setting, base_at, file_at}
use Rattle.block_ledger.specs.Ledger.{Ledger, Segment}
use Rattle.block_ledger.proofs.Gets.{got-kept}
use Rattle.engine.specs.Standing.{shape}
use Rattle.engine.proofs.KeptCode.{found_is}
use Rattle.region_laws.specs.Standing.{AllStand}
use Rattle.region_laws.proofs.Regions.{find-without}
use Rattle.guest_proc.specs.Kept.{image_at}
use Rattle.guest_proc.specs.Maps.{OthersStartElsewhere}
use Rattle.guest_proc.specs.Process.{Process}
use Rattle.module_laws.specs.Hosted.{AreHosted, ModuleStands, has_start, starts_in}
use Rattle.module_laws.specs.Laws.{MappedIsPlaced, UnplaceHosts}
use Rattle.module_laws.proofs.Lists.{find-apart, module-stays, modules-apart, not-that, once-without, or-more}
use Rattle.module_laws.proofs.Coming.{shape-there, starts-as}

-- ---- it stands alone

image_of : (led : Ledger) (i : ℕ) (seg : Segment) → fin.get led.segments i ≡ Some seg → image_at led i ≡ Some seg.image
image_of led i seg e = ap (option_map (λ (x : Segment). x.image)) e

elsewhere : (w : Setting) (k : ℕ) (mapping : Mapping) (p : Process) → AreHosted w p → find (is_module k) p.state.io.mapped ≡ Some mapping → (base : ℕ) (ss : List FileSegment) →
    ((x : ℕ) → has_start base ss x ≡ true → starts_in w k mapping.file x ≡ true) → OthersStartElsewhere k base ss p.ledger
elsewhere w k mapping p h is base [] all = tt
elsewhere w k mapping p h is base (s ∷ ss) all = (
  λ i seg got here.
      let o = h.own i seg.image (image_of p.ledger i seg got) in
      let self : (base + s.vaddr == base + s.vaddr) ≡ true = grind (arith, nat_tests) in
      let mine : starts_in w k mapping.file (base + s.vaddr) ≡ true = all (base + s.vaddr) (ap (λ b. b || list_any (λ t. base + s.vaddr == base + t.vaddr) ss) self) in
      let its : starts_in w (i / 4) o.mapping.file (base + s.vaddr) ≡ true = subst (λ x. starts_in w (i / 4) o.mapping.file x ≡ true) here o.starts in
      let same : i / 4 ≡ k = h.apart (i / 4) k o.mapping mapping (base + s.vaddr) o.mapped is its mine in
      grind (arith, nat_tests),
  elsewhere w k mapping p h is base ss (λ x e. all x (or-more (x == base + s.vaddr) _ e)),
)

-- the base and the program of a module that stands are these
same_stand : (w : Setting) (k base : ℕ) (mapping : Mapping) (program : Program) (p : Process) → base_at w k ≡ Some base → file_at w mapping.file ≡ Some program → ModuleStands w k mapping.file p →
    AllStand p.state.memory p.state.io.heap (base_of program base) program.segments
same_stand w k base mapping program p at known s =
    let b : s.base ≡ base = same_Some s.base base (sym s.stands ∙ at) in
    let q : s.program ≡ program = same_Some s.program program (sym s.known ∙ known) in
    subst (λ x. AllStand p.state.memory p.state.io.heap (base_of program x) program.segments) b (subst (λ y. AllStand p.state.memory p.state.io.heap (base_of y s.base) y.segments) q s.stand)

pub mapped-is-placed : MappedIsPlaced
mapped-is-placed w k base mapping program p is at known h = record {
  stand = same_stand w k base mapping program p at known (h.stands k mapping is);
  alone = elsewhere w k mapping p h is (base_of program base) program.segments (λ x e. starts-as w k mapping.file base x program at known ∙ e);
}

-- ---- the others stay

-- a region that starts elsewhere stays
stays_one : (m : Memory) (base : ℕ) (ss : List FileSegment) (x : ℕ) (r : Area) → find (starts_at x) m ≡ Some r → has_start base ss x ≡ false → find (starts_at x) (without_segments m base ss) ≡ Some r
stays_one m base [] x r e off = e
stays_one m base (s ∷ ss) x r e off = elim (cases_Bool (x == base + s.vaddr)) [
  | inl here ↦ let wrong = rw here at off in absurd (cc)
  | inr other ↦
      let later : has_start base ss x ≡ false = rw other at off in
      let mine : starts_at x r ≡ true = found_is (starts_at x) m r e in
      let not_its : starts_at (base + s.vaddr) r ≡ false = grind (arith, nat_tests) in
      stays_one (others m (base + s.vaddr)) base ss x r (find-without (starts_at x) (starts_at (base + s.vaddr)) m r e not_its) later
]

stand_stays : (m : Memory) (heap : Option Heap) (base : ℕ) (gone : List FileSegment) (its : ℕ) (ss : List FileSegment) → ((x : ℕ) → has_start its ss x ≡ true → has_start base gone x ≡ true → ⊥) →
    AllStand m heap its ss → AllStand (without_segments m base gone) heap its ss
stand_stays m heap base gone its [] apart all = tt
stand_stays m heap base gone its (s ∷ ss) apart all =
    let self : (its + s.vaddr == its + s.vaddr) ≡ true = grind (arith, nat_tests) in
    let mine : has_start its (s ∷ ss) (its + s.vaddr) ≡ true = ap (λ b. b || list_any (λ t. its + s.vaddr == its + t.vaddr) ss) self in
    let off : has_start base gone (its + s.vaddr) ≡ false = elim (cases_Bool (has_start base gone (its + s.vaddr))) [ inl both ↦ absurd (apart (its + s.vaddr) mine both) | inr other ↦ other ] in
    let one = shape-there (region_from m (its + s.vaddr)) _ all.0.there in (
      record { there = ap shape (stays_one m base gone (its + s.vaddr) one.0 one.1 off ∙ sym one.1) ∙ all.0.there; apart = all.0.apart },
      stand_stays m heap base gone its ss (λ y a b. apart y (or-more (y == its + s.vaddr) _ a) b) all.1,
    )

image_kept : (b : Bool) (o : Option Segment) (code : Code) → option_map (λ (x : Segment). x.image) (cond b o None) ≡ Some code → (b ≡ true) × (option_map (λ (x : Segment). x.image) o ≡ Some code)
image_kept true o code e = (refl, e)
image_kept false o code e = absurd (cc)

pub unplace-hosts : UnplaceHosts
unplace-hosts w k base mapping program old new is at known gone h = subst (AreHosted w) (sym gone) (record {
  once = λ j. once-without (is_module j) (is_module k) old.state.io.mapped (h.once j);
  stands = λ j a e.
      let o = module-stays j k old.state.io.mapped a (h.once k) e in
      let s = h.stands j a o.1 in
      record {
        base = s.base;
        program = s.program;
        stands = s.stands;
        known = s.known;
        top = s.top;
        stand = stand_stays old.state.memory old.state.io.heap (base_of program base) program.segments (base_of s.program s.base) s.program.segments
            (λ x p q. o.0 (h.apart j k a mapping x o.1 is (starts-as w j a.file s.base x s.program s.stands s.known ∙ p) (starts-as w k mapping.file base x program at known ∙ q))) s.stand;
      };
  apart = λ j i a b x p q. h.apart j i a b x (module-stays j k old.state.io.mapped a (h.once k) p).1 (module-stays i k old.state.io.mapped b (h.once k) q).1;
  own = λ i code e.
      let kept = image_kept (not (i / 4 == k)) (fin.get old.ledger.segments i) code
      (sym (ap (option_map (λ (x : Segment). x.image)) (got-kept old.ledger.segments (λ j. not (j / 4 == k)) i)) ∙ e) in
      let o = h.own i code kept.1 in
      record { mapping = o.mapping; mapped = find-apart (is_module (i / 4)) (is_module k) old.state.io.mapped (modules-apart (i / 4) k (not-that (i / 4) k kept.0)) ∙ o.mapped; starts = o.starts };
})
