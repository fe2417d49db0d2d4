-- A unit, as it is written, breaks no rule of the format.
use Rattle.std.proofs.Common.{IfSome, ℕ, suc, ◌+◌, ◌^◌, ◌<◌, ◌≤◌, Bool, true, false, eqb, List, [], ◌∷◌, length, map, get_or, Option, Some, None, arith}
use Rattle.std.specs.Prelude.{if◌then◌else◌, option_map}
use Rattle.std.specs.List.{All, AllByRecursion}
use Rattle.std.proofs.lemmas.List.{length-map}
use Rattle.std.proofs.lemmas.List.Elements.{All-head, All-tail}
use Rattle.cc_base.specs.Image.{Code, FitsSegment}
use Rattle.fragment.specs.declared.Exit.{Exit}
use Rattle.fragment.specs.declared.Exit.TheVariants.{Direct, Indirect, Asks, Stop}
use Rattle.fragment.specs.Parts.{Parts}
use Rattle.unit_set.specs.Slot.{Slot, IsSlot}
use Rattle.unit_set.specs.Sets.{place, IsRising}
use Rattle.unit_set.specs.Held.{addresses, IsFreshFor, link_in}
use Rattle.unit_format.specs.Text.{outs, IsExit, IsOut, IsFragment, AreFragments}
use Rattle.unit_format.specs.Units.{link_number, links_in, tied}
use Rattle.unit_format.specs.Laws.{UnitsHaveTexts}
use Rattle.unit_format.proofs.Blocks.{IsBlock, is_block}

-- ---- its links

next_below : (n : ℕ) (o : Option ℕ) → IfSome o (λ k. k < n) → IfSome (option_map (λ k. k + 1) o) (λ k. k < suc n)
next_below n None h = tt
next_below n (Some k) h = omega (arith, h)

first_below : (n : ℕ) (b : Bool) (o : Option ℕ) → IfSome o (λ k. k < suc n) → IfSome (if b then Some 0 else o) (λ k. k < suc n)
first_below n true o h = omega arith
first_below n false o h = h

place_below : (x : ℕ) (xs : List ℕ) → IfSome (place x xs) (λ k. k < length xs)
place_below x [] = tt
place_below x (y ∷ ys) = first_below (length ys) (eqb y x) (option_map (λ k. k + 1) (place x ys)) (next_below (length ys) (place x ys) (place_below x ys))

number_fits : (n : ℕ) (o : Option ℕ) → n ≤ 16384 → IfSome o (λ k. k < n) → link_number o < 2 ^ 32
number_fits n None few h = omega arith
number_fits n (Some k) few h = omega (arith, h)

target_fits : (frags : List Parts) (target : ℕ) → length frags ≤ 16384 → link_number (place target (addresses frags)) < 2 ^ 32
target_fits frags target few = number_fits (length (addresses frags)) (place target (addresses frags)) (omega (arith, few, length-map frags (λ (f : Parts). f.address))) (place_below target (addresses frags))

link_fits : (frags : List Parts) (e : Exit) → length frags ≤ 16384 → link_number (link_in frags e) < 2 ^ 32
link_fits frags (Direct target) few = target_fits frags target few
link_fits frags Indirect few = omega arith
link_fits frags (Asks target) few = omega arith
link_fits frags Stop few = omega arith

outs_fit : (frags : List Parts) (es : List Exit) → length frags ≤ 16384 → AllByRecursion IsExit es → AllByRecursion IsOut (outs es (links_in frags es))
outs_fit frags [] few all = tt
outs_fit frags (e ∷ es) few all = ((all.0, link_fits frags e few), outs_fit frags es few all.1)

-- ---- the fragments

is_fragment : (image : Code) (least : ℕ) (frags : List Parts) (f : Parts) → FitsSegment image.start image.bytes → length frags ≤ 16384 → IsBlock image f → least ≤ f.address → IsFragment image least (tied frags f)
is_fragment image least frags f fits few is rises =
    let holds = is.within in
    record {
      rises = rises;
      address = omega (arith, holds.to, holds.some, fits.2);
      aligned = is.aligned;
      within = holds;
      words = is.words;
      few_probes = is.few_probes;
      probes = is.probes;
      exits = is.exits;
      links = length-map f.exits (λ (e : Exit). link_number (link_in frags e));
      all_outs = outs_fit frags f.exits few is.targets;
    }

are_fragments : (slot : Slot) (image : Code) (least : ℕ) (all fs : List Parts) → IsSlot slot → FitsSegment image.start image.bytes → length all ≤ 16384 → All (IsFreshFor slot image) fs → IsRising (addresses fs)
    → ((i : ℕ) → i < length (addresses fs) → least ≤ get_or (addresses fs) i 0) → AreFragments image least (map (tied all) fs)
are_fragments slot image least all [] named fits few built rises above = tt
are_fragments slot image least all (f ∷ fs) named fits few built rises above = (
  is_fragment image least all f fits few (is_block slot image f named (All-head (IsFreshFor slot image) f fs built)) (above 0 (omega arith)),
  are_fragments slot image (f.address + 1) all fs named fits few (All-tail (IsFreshFor slot image) f fs built) (λ i j lt in_fs. rises (suc i) (suc j) (omega arith) (omega (arith, in_fs)))
      (λ i in_fs. let h : f.address < get_or (addresses fs) i 0 = rises 0 (suc i) (omega arith) (omega (arith, in_fs)) in omega (arith, h)),
)

pub have_texts : UnitsHaveTexts
have_texts v u is has = record {
  isa = has;
  slot = is.slot;
  start = is.start;
  image = is.image;
  count = omega (arith, length-map u.frags (tied u.frags), is.held.few);
  fragments = are_fragments u.slot u.image 0 u.frags u.frags is.slot is.image is.held.few is.held.fresh is.held.rises (λ i in_fs. omega arith);
}
