-- The probes of a block, place by place.
use Rattle.std.proofs.Common.{◌≡◌, ℕ, zero, suc, ◌+◌, ◌-◌, ◌<◌, ◌≤◌, List, [], ◌∷◌, ◌++◌, length, get_or, take, Option, Some, None, refl, sym, ◌∙◌, ap, subst, arith, append_assoc, length-append}
use Rattle.std.specs.List.{flat_map, range_with_len}
use Rattle.std.proofs.lemmas.List.Concat.{flat_map-append}
use Rattle.std.proofs.lemmas.List.{get_or-append_right, length-take-le, take_more}
use Rattle.std.proofs.Math.Seq.{get_or-append_seam}
use Rattle.rv_decode.specs.declared.ins.Isa.{Isa}
use Rattle.probe_tools.specs.declared.tool.Tool.{Tool}
use Rattle.probe_tools.specs.declared.probe.ProbeKind.{ProbeKind}
use Rattle.fragment.specs.declared.Probe.{Probe}
use Rattle.fragment.specs.Probing.{probe_at, placed, probes_before, probes_of}

range_more : (a n j : ℕ) → a + n ≡ j → range_with_len a (n + 1) ≡ range_with_len a n ++ j ∷ []
range_more a zero j e = let same : a ≡ j = omega arith in ap (λ x. x ∷ []) same
range_more a (suc n) j e =
    let step : suc n + 1 ≡ suc (n + 1) = omega arith in
    rw step (ap (λ r. a ∷ r) (range_more (a + 1) n j (omega arith)))

append_none : (xs : List Probe) → xs ++ [] ≡ xs
append_none [] = refl
append_none (x ∷ xs) = ap (λ ys. x ∷ ys) (append_none xs)

-- all probes of a list stand at this place or behind it
pub record AreFrom (i : ℕ) (probes : List Probe) : Type 0 where
  pub each : (k : ℕ) (d : Probe) → k < length probes → i ≤ (get_or probes k d).place

no_more : (i : ℕ) → AreFrom i []
no_more i = record { each = λ k d h. absurd (omega arith) }

one_more : (i : ℕ) (probe : Option ProbeKind) (probes : List Probe) → AreFrom (i + 1) probes → AreFrom i (placed i probe ++ probes)
one_more i None probes all = record { each = λ k d h. let less : i + 1 ≤ (get_or probes k d).place = all.each k d h in omega arith }
one_more i (Some kind) probes all = record { each = each }
  where
    each : (k : ℕ) (d : Probe) → k < length (record { place = i; kind = kind } ∷ probes) → i ≤ (get_or (record { place = i; kind = kind } ∷ probes) k d).place
    each zero d h = omega arith
    each (suc k) d h = let less : i + 1 ≤ (get_or probes k d).place = all.each k d (omega arith) in omega arith

module _ (tool : Tool) (isa : Isa) (words : List ℕ) where
  pub before-none : probes_before tool isa words 0 ≡ []
  unfolding probes_before
  before-none = refl

  pub before-more : (i : ℕ) → probes_before tool isa words (i + 1) ≡ probes_before tool isa words i ++ placed i (probe_at tool isa words i)
  unfolding probes_before
  before-more i =
      let f : ℕ → List Probe = λ k. placed k (probe_at tool isa words k) in
      ap (flat_map f) (range_more 0 i i (omega arith)) ∙ flat_map-append f (range_with_len 0 i) (i ∷ []) ∙ ap (λ r. flat_map f (range_with_len 0 i) ++ r) (append_none (f i))

  -- what stands from place i on
  pub record Rest (i : ℕ) (all : List Probe) : Type 0 where
    pub rest : List Probe
    pub split : all ≡ probes_before tool isa words i ++ rest
    pub later : AreFrom i rest

  rest_from : (m i : ℕ) → Rest i (probes_before tool isa words (i + m))
  rest_from zero i = record { rest = []; split = ap (probes_before tool isa words) (omega arith) ∙ sym (append_none (probes_before tool isa words i)); later = no_more i }
  rest_from (suc m) i =
      let behind = rest_from m (i + 1) in
      let e : i + suc m ≡ i + 1 + m = omega arith in
      record {
        rest = placed i (probe_at tool isa words i) ++ behind.rest;
        split = ap (probes_before tool isa words) e ∙ behind.split ∙ ap (λ front. front ++ behind.rest) (before-more i) ∙ append_assoc (probes_before tool isa words i) (placed i (probe_at tool isa words i)) behind.rest;
        later = one_more i (probe_at tool isa words i) behind.rest behind.later;
      }

  rest_of : (i : ℕ) → i ≤ length words → Rest i (probes_of tool isa words)
  rest_of i h = let e : i + (length words - i) ≡ length words = omega arith in subst (λ n. Rest i (probes_before tool isa words n)) e (rest_from (length words - i) i)

-- a probe stands in the list behind those of the places before
pub record IsNext (probes : List Probe) (k : ℕ) (probe : Probe) : Type 0 where
  pub within : k < length probes
  pub here : (d : Probe) → get_or probes k d ≡ probe

next_is : (front rest : List Probe) (probe : Probe) → IsNext (front ++ probe ∷ rest) (length front) probe
next_is front rest probe = record { within = omega (arith, length-append front (probe ∷ rest)); here = λ d. get_or-append_seam front probe rest d }

-- Where a block has a probe at place i, it is the first behind those of the places before.
pub next_probe : (tool : Tool) (isa : Isa) (words : List ℕ) (i : ℕ) (kind : ProbeKind) → i < length words → probe_at tool isa words i ≡ Some kind →
    IsNext (probes_of tool isa words) (length (probes_before tool isa words i)) (record { place = i; kind = kind })
next_probe tool isa words i kind h is =
    let behind = rest_of tool isa words (i + 1) (omega arith) in
    let front : List Probe = probes_before tool isa words i in
    let probe : Probe = record { place = i; kind = kind } in
    let split : probes_of tool isa words ≡ front ++ probe ∷ behind.rest =
    behind.split ∙ ap (λ xs. xs ++ behind.rest) (before-more tool isa words i ∙ ap (λ o. front ++ placed i o) is) ∙ append_assoc front (probe ∷ []) behind.rest in
    subst (λ all. IsNext all (length front) probe) (sym split) (next_is front behind.rest probe)

-- Where it has none there, the next one stands further on.
pub no_probe : (tool : Tool) (isa : Isa) (words : List ℕ) (i : ℕ) (d : Probe) → i < length words → probe_at tool isa words i ≡ None →
    length (probes_before tool isa words i) < length (probes_of tool isa words) → i < (get_or (probes_of tool isa words) (length (probes_before tool isa words i)) d).place
no_probe tool isa words i d h is more =
    let behind = rest_of tool isa words (i + 1) (omega arith) in
    let front : List Probe = probes_before tool isa words i in
    let split : probes_of tool isa words ≡ front ++ behind.rest =
    behind.split ∙ ap (λ xs. xs ++ behind.rest) (before-more tool isa words i ∙ ap (λ o. front ++ placed i o) is ∙ append_none front) in
    let some : 0 < length behind.rest = omega (arith, ap length split, length-append front behind.rest) in
    let e : get_or (probes_of tool isa words) (length front) d ≡ get_or behind.rest 0 d = ap (λ all. get_or all (length front) d) split ∙ get_or-append_right front behind.rest (length front) (length front) d refl (omega arith) ∙ ap (λ k. get_or behind.rest k d) (omega arith) in
    let far : i + 1 ≤ (get_or behind.rest 0 d).place = behind.later.each 0 d some in
    let same : (get_or (probes_of tool isa words) (length front) d).place ≡ (get_or behind.rest 0 d).place = ap (λ p. p.place) e in
    omega arith

-- ---- a list of probes, tested place by place

pub front_more : (tool : Tool) (isa : Isa) (words : List ℕ) (i : ℕ) (kind : ProbeKind) (probes : List Probe) (next : ℕ) (d : Probe) → probe_at tool isa words i ≡ Some kind →
    next < length probes → get_or probes next d ≡ record { place = i; kind = kind } → take next probes ≡ probes_before tool isa words i → take (next + 1) probes ≡ probes_before tool isa words (i + 1)
front_more tool isa words i kind probes next d is h here front =
    take_more probes next d h ∙ ap (λ ps. ps ++ get_or probes next d ∷ []) front ∙ ap (λ p. probes_before tool isa words i ++ p ∷ []) here
    ∙ sym (before-more tool isa words i ∙ ap (λ o. probes_before tool isa words i ++ placed i o) is)

pub front_stays : (tool : Tool) (isa : Isa) (words : List ℕ) (i : ℕ) → probe_at tool isa words i ≡ None → probes_before tool isa words i ≡ probes_before tool isa words (i + 1)
front_stays tool isa words i is = sym (before-more tool isa words i ∙ ap (λ o. probes_before tool isa words i ++ placed i o) is ∙ append_none (probes_before tool isa words i))

pub stands_there : (tool : Tool) (isa : Isa) (words : List ℕ) (i : ℕ) (kind : ProbeKind) (probes : List Probe) (next : ℕ) → probe_at tool isa words i ≡ Some kind → i < length words →
    next ≤ length probes → take next probes ≡ probes_before tool isa words i → probes ≡ probes_of tool isa words → IsNext probes next (record { place = i; kind = kind })
stands_there tool isa words i kind probes next is h within front all =
    let size : length (probes_before tool isa words i) ≡ next = ap length (sym front) ∙ length-take-le next probes within in
    let probe : Probe = record { place = i; kind = kind } in
    subst (λ ps. IsNext ps next probe) (sym all) (subst (λ k. IsNext (probes_of tool isa words) k probe) size (next_probe tool isa words i kind h is))

pub before_more_some : (tool : Tool) (isa : Isa) (words : List ℕ) (i : ℕ) (kind : ProbeKind) → probe_at tool isa words i ≡ Some kind →
    probes_before tool isa words (i + 1) ≡ probes_before tool isa words i ++ record { place = i; kind = kind } ∷ []
before_more_some tool isa words i kind is = before-more tool isa words i ∙ ap (λ o. probes_before tool isa words i ++ placed i o) is
