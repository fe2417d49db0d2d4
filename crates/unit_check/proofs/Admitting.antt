-- The passes of admission, and what they come to.
use Rattle.std.proofs.Common.{◌≡◌, ◌⊎◌, ◌↔◌, IsTrue, ℕ, zero, suc, ◌+◌, ◌<◌, ◌≤◌, Bool, true, false, MatchOption, Option, Some, None, List, [], ◌∷◌, length, map, get_or, take, refl, sym, ap, arith, inl, inr}
use Rattle.std.specs.List.{All}
use Rattle.std.proofs.lemmas.List.{length-map}
use Rattle.std.proofs.lemmas.List.Elements.{All-nil, All-cons, All-head, All-tail, All-map}
use Rattle.cc_base.specs.Image.{Code}
use Rattle.fragment.specs.declared.Exit.{Exit}
use Rattle.fragment.specs.Parts.{Parts}
use Rattle.unit_set.specs.Raw.{Tied, Raw}
use Rattle.unit_set.specs.Slot.{Slot}
use Rattle.unit_set.specs.Sets.{IsRising}
use Rattle.unit_set.specs.Held.{IsFreshFor}
use Rattle.unit_set.specs.Held.{Held, IsHeld, IsUnit, addresses}
use Rattle.unit_format.specs.declared.header.Version.{Version}
use Rattle.unit_format.specs.Text.{AreFragments, IsRaw}
use Rattle.unit_format.specs.Units.{links_at, tied, raw_of}
use Rattle.unit_check.specs.First.{IsFirstOther}
use Rattle.unit_check.specs.Shape.{HasLinkEach}
use Rattle.unit_check.specs.Admission.{IsFresh, addresses_in, held_of, HasLinks, IsFirstStale, IsFirstBad}
use Rattle.unit_check.proofs.Firsts.{first_not}

-- ---- freshness

is_false : (b : Bool) → b ≡ false → IsTrue b → ⊥
is_false true n t = absurd cc
is_false false n t = absurd cc

pub stale_at : (slot : Slot) (image : Code) (fs : List Tied) (i : ℕ) (f : Tied) (shown : Parts) (b : Bool) (told : ℕ) → i < length fs → f ≡ get_or fs i f → All (IsFresh slot image) (take i fs) → shown ≡ f.frag
    → (IsTrue b ↔ IsFreshFor slot image shown) → b ≡ false → told ≡ f.frag.address → IsFirstStale slot image fs told
stale_at slot image fs i f shown b told lt e all show is n at = (f, (first_not (IsFresh slot image) fs i f lt e all (λ built. is_false b n (is.1 (rw show built))), sym at))

pub fresh_at : (slot : Slot) (image : Code) (shown : Parts) (f : Tied) (b : Bool) → shown ≡ f.frag → (IsTrue b ↔ IsFreshFor slot image shown) → b ≡ true → IsFresh slot image f
fresh_at slot image shown f true e is n = rw (← e) (is.0 refl)
fresh_at slot image shown f false e is n = absurd cc

pub fresh_all : (slot s : Slot) (image i : Code) (fs shown : List Tied) (o : Option ℕ) → o ≡ None → s ≡ slot → i ≡ image → shown ≡ fs → MatchOption o (All (IsFresh s i) shown) (λ a. IsFirstStale s i shown a) → All (IsFresh slot image) fs
fresh_all slot s image i fs shown None e same_slot same_image same h = rw (← same_slot, ← same_image, ← same) h
fresh_all slot s image i fs shown (Some a) e same_slot same_image same h = absurd cc

-- ---- links

pub links_all : (addrs : List ℕ) (fs shown : List Tied) → addrs ≡ addresses_in fs → shown ≡ fs → All (HasLinks addrs) shown → All (HasLinks (addresses_in fs)) fs
links_all addrs fs shown e same h = rw (← same) (rw (ap addresses_in same, ← e) h)

other_fails : (xs ys : List ℕ) (n : ℕ) → IsFirstOther xs ys n → xs ≡ ys → ⊥
other_fails xs ys n other e = other.differ (ap (λ (zs : List ℕ). get_or zs n 0) e)

pub bad_at : (addrs : List ℕ) (fs : List Tied) (i : ℕ) (f : Tied) (links : List ℕ) (exits : List Exit) (told exit : ℕ) → i < length fs → f ≡ get_or fs i f → All (HasLinks addrs) (take i fs)
    → links ≡ f.links → exits ≡ f.frag.exits → IsFirstOther links (links_at addrs exits) exit → told ≡ f.frag.address → IsFirstBad addrs fs told exit
bad_at addrs fs i f links exits told exit lt e all e-links e-exits other at =
    let here : IsFirstOther f.links (links_at addrs f.frag.exits) exit = rw (← e-links, ← e-exits) other in
    (f, (first_not (HasLinks addrs) fs i f lt e all (λ has. other_fails f.links (links_at addrs f.frag.exits) exit here has), sym at, here))

pub has_at : (addrs : List ℕ) (f : Tied) (links : List ℕ) (exits : List Exit) → links ≡ f.links → exits ≡ f.frag.exits → links ≡ links_at addrs exits → HasLinks addrs f
has_at addrs f links exits e-links e-exits same = rw (← e-links, ← e-exits) same

-- ---- what reading gave

one_or_two : (n : ℕ) → (n ≡ 1) ⊎ (n ≡ 2) → n ≤ 2
one_or_two n (inl a) = omega arith
one_or_two n (inr b) = omega arith

pub link_each : (image : Code) (least : ℕ) (fs : List Tied) → AreFragments image least fs → All HasLinkEach fs
link_each image least [] are = All-nil HasLinkEach
link_each image least (f ∷ fs) are = All-cons HasLinkEach f fs (record { each = are.0.links; two = one_or_two (length f.frag.exits) are.0.exits }) (link_each image (f.frag.address + 1) fs are.1)

above : (image : Code) (least : ℕ) (fs : List Tied) (i : ℕ) → AreFragments image least fs → i < length (addresses_in fs) → least ≤ get_or (addresses_in fs) i 0
above image least [] i are lt = absurd (omega (arith, lt))
above image least (f ∷ fs) zero are lt = are.0.rises
above image least (f ∷ fs) (suc i) are lt = let h = above image (f.frag.address + 1) fs i are.1 (omega (arith, lt)) in omega (arith, h, are.0.rises)

pub rising : (image : Code) (least : ℕ) (fs : List Tied) → AreFragments image least fs → IsRising (addresses_in fs)
rising image least [] are i j lt in_fs = absurd (omega (arith, in_fs))
rising image least (f ∷ fs) are i zero lt in_fs = absurd (omega (arith, lt))
rising image least (f ∷ fs) are zero (suc j) lt in_fs = let h = above image (f.frag.address + 1) fs j are.1 (omega (arith, in_fs)) in omega (arith, h)
rising image least (f ∷ fs) are (suc i) (suc j) lt in_fs = rising image (f.frag.address + 1) fs are.1 i j (omega (arith, lt)) (omega (arith, in_fs))

-- ---- the unit

pub same_addresses : (fs : List Tied) → addresses (map (λ f. f.frag) fs) ≡ addresses_in fs
same_addresses [] = refl
same_addresses (f ∷ fs) = ap (λ (xs : List ℕ). f.frag.address ∷ xs) (same_addresses fs)

retied : (all : List Parts) (fs : List Tied) → All (HasLinks (addresses all)) fs → map (tied all) (map (λ f. f.frag) fs) ≡ fs
retied all [] has = refl
retied all (f ∷ fs) has = rw (← All-head (HasLinks (addresses all)) f fs has) (ap (λ (xs : List Tied). f ∷ xs) (retied all fs (All-tail (HasLinks (addresses all)) f fs has)))

pub is_held : (v : Version) (raw : Raw) → IsRaw v raw → All (IsFresh raw.slot raw.image) raw.frags → IsHeld raw.slot raw.image (map (λ f. f.frag) raw.frags)
is_held v raw is fresh = record {
  rises = rw (same_addresses raw.frags) (rising raw.image 0 raw.frags is.fragments);
  few = omega (arith, is.count, length-map raw.frags (λ (f : Tied). f.frag));
  fresh = All-map (IsFreshFor raw.slot raw.image) (λ (f : Tied). f.frag) raw.frags fresh;
}

pub is_admitted : (v : Version) (raw : Raw) (slot : Slot) (u : Held) → IsRaw v raw → raw.slot ≡ slot → All (IsFresh raw.slot raw.image) raw.frags → All (HasLinks (addresses_in raw.frags)) raw.frags → u ≡ held_of raw
    → IsUnit u × (u.slot ≡ slot) × (raw_of u ≡ raw)
is_admitted v raw slot u is same fresh has e =
    let links : All (HasLinks (addresses (map (λ f. f.frag) raw.frags))) raw.frags = rw (same_addresses raw.frags) has in
    rw e (record { slot = is.slot; start = is.start; image = is.image; held = is_held v raw is fresh }, same, ap (λ (fs : List Tied). record { slot = raw.slot; image = raw.image; frags = fs }) (retied (map (λ f. f.frag) raw.frags) raw.frags links))
