-- What a merge makes of a generation.
use Rattle.std.proofs.Common.{◌≡◌, ℕ, ◌+◌, ◌<◌, ◌≤◌, Bool, true, false, if◌then◌else◌, nat_lt, List, length, refl, sym, ap, subst, ◌∙◌, arith, le-ltb, lt-ltb}
use Rattle.cc_base.specs.Image.{Code}
use Rattle.fragment.specs.Parts.{Parts}
use Rattle.unit_set.specs.Sets.{IsRising}
use Rattle.unit_set.specs.Slot.{Slot}
use Rattle.unit_set.specs.Held.{Held, addresses}
use Rattle.unit_set.specs.Join.{Joins}
use Rattle.unit_set.specs.declared.unit.Joined.{Joined}
use Rattle.unit_set.specs.declared.unit.Joined.TheVariants.{New, Same, Full}
use Rattle.registry.proofs.Units.{adds_is, joint_is, union_more, union_same}
use Rattle.registry.specs.declared.entry.Merged.{Merged}
use Rattle.registry.specs.declared.entry.Merged.TheVariants.{Version, UnitFull}
use Rattle.registry.specs.Content.{content_of, union, most_addrs}
use Rattle.registry.specs.State.{Generation}
use Rattle.registry.specs.Registry.{is_over, merged, merge_reply}

-- what it becomes, and what is answered
pub record Becomes (more : List ℕ) (g new : Generation) (reply : Merged) : Type 0 where
  pub generation : new ≡ merged more g
  pub told : reply ≡ merge_reply more g

becomes_by : (over more_there : Bool) (more v : List ℕ) (g : Generation) → nat_lt most_addrs (length v) ≡ over → nat_lt (length g.unit.addrs) (length v) ≡ more_there → union g.unit.addrs more ≡ v
    → Becomes more g (if over then g else record g { unit = record g.unit { addrs = v }; version = if more_there then g.version + 1 else g.version })
    (if over then UnitFull (length v) else Version (if more_there then g.version + 1 else g.version))
becomes_by over more_there more v g is_over is_more all = record {
  generation = rw all (rw is_over (rw is_more refl));
  told = rw all (rw is_over (rw is_more refl));
}

pub grows : (more v : List ℕ) (g : Generation) → union g.unit.addrs more ≡ v → length g.unit.addrs < length v → length v ≤ 16384
    → Becomes more g (record g { unit = record g.unit { addrs = v }; version = g.version + 1 }) (Version (g.version + 1))
grows more v g all longer few = becomes_by false true more v g (le-ltb 16384 (length v) few) (lt-ltb (length g.unit.addrs) (length v) longer) all

pub stays : (more : List ℕ) (g : Generation) → union g.unit.addrs more ≡ g.unit.addrs → length g.unit.addrs ≤ 16384 → Becomes more g g (Version g.version)
stays more g all few = becomes_by false false more g.unit.addrs g (le-ltb 16384 (length g.unit.addrs) few) (le-ltb (length g.unit.addrs) (length g.unit.addrs) (omega arith)) all

pub full : (more v : List ℕ) (g : Generation) → union g.unit.addrs more ≡ v → 16384 < length v → length g.unit.addrs < length v → Becomes more g g (UnitFull (length v))
full more v g all over longer = becomes_by true true more v g (lt-ltb 16384 (length v) over) (lt-ltb (length g.unit.addrs) (length v) longer) all

-- ---- by what a join of its unit answers

pub record AreKnown (u : Held) : Type 0 where
  pub rises : IsRising (addresses u.frags)
  pub few : length (addresses u.frags) ≤ 16384

pub known : (u inner : Held) (xs : List ℕ) → u ≡ inner → xs ≡ addresses u.frags → IsRising xs → length xs ≤ 16384 → AreKnown inner
known u inner xs same is rises few =
    let e = is ∙ ap (λ (v : Held). addresses v.frags) same in
    record { rises = subst IsRising e rises; few = subst (λ (ys : List ℕ). length ys ≤ 16384) e few }

pub join-of : (u inner : Held) (added : List Parts) (j k : Joined) → u ≡ inner → j ≡ k → Joins u added j → Joins inner added k
join-of u inner added j k same is h = subst (λ (x : Joined). Joins inner added x) is (subst (λ (v : Held). Joins v added j) same h)

module _ (u : Held) (added : List Parts) (version attached : ℕ) (are : AreKnown u) where
  abbrev it : Generation
  it = record { unit = content_of u; version = version; attached = attached }

  pub joined-same : Joins u added Same → Becomes (addresses added) it it (Version version)
  joined-same h = stays (addresses added) it (union_same (addresses u.frags) (addresses added) are.rises (sym (adds_is (addresses u.frags) added) ∙ h)) are.few

  pub joined-new : (v : Held) → Joins u added (New v) → length (addresses v.frags) ≤ 16384 → Becomes (addresses added) it (record { unit = content_of v; version = version + 1; attached = attached }) (Version (version + 1))
  joined-new v h short =
      let all = joint_is (addresses u.frags) (addresses added) (addresses v.frags) are.rises h.3 in
      let longer = union_more (addresses u.frags) (addresses added) (sym (adds_is (addresses u.frags) added) ∙ h.0) in
      let grown = grows (addresses added) (addresses v.frags) it (sym all) (omega (arith, longer, ap length all)) short in
      record {
        generation = ap (λ (n : Slot). let g : Generation = record { unit = record { slot = n; image = v.image; addrs = addresses v.frags }; version = version + 1; attached = attached } in g) h.1
            ∙ (ap (λ (i : Code). let g : Generation = record { unit = record { slot = u.slot; image = i; addrs = addresses v.frags }; version = version + 1; attached = attached } in g) h.2 ∙ grown.generation);
        told = grown.told;
      }

  pub joined-full : (n : ℕ) → Joins u added (Full n) → Becomes (addresses added) it it (UnitFull n)
  joined-full n h =
      let all = joint_is (addresses u.frags) (addresses added) h.1 are.rises h.2 in
      subst (λ m. Becomes (addresses added) it it (UnitFull m)) h.3
      (full (addresses added) h.1 it (sym all) (omega (arith, h.0, h.3)) (omega (arith, h.0, h.3, are.few)))
