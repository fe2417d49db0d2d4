-- Admission has one answer, and admits what was written.
use Rattle.std.proofs.Common.{◌≡◌, ℕ, ◌+◌, ◌≤◌, List, [], ◌∷◌, ◌++◌, map, Result, Ok, Err, refl, sym, ap, subst, ◌∙◌, arith}
use Rattle.std.specs.List.{All}
use Rattle.std.proofs.lemmas.List.Elements.{All-nil, All-cons, All-head, All-tail, All-weaker, All-map}
use Rattle.cc_base.specs.Image.{Code}
use Rattle.fragment.specs.Parts.{Parts}
use Rattle.unit_set.specs.Raw.{Tied, Raw}
use Rattle.unit_set.specs.Slot.{Slot}
use Rattle.unit_set.specs.Held.{IsFreshFor}
use Rattle.unit_set.specs.Held.{Held, IsUnit, addresses}
use Rattle.unit_format.specs.Text.{AreFragments}
use Rattle.unit_format.specs.Units.{links_at, tied, raw_of}
use Rattle.unit_format.proofs.RawLaws.{have_texts}
use Rattle.unit_format.proofs.UnitLaws.{are_read}
use Rattle.unit_check.specs.declared.admission.AdmitErr.{AdmitErr}
use Rattle.unit_check.specs.declared.admission.AdmitErr.TheVariants.{Foreign, NotFresh, BadLink, Memory}
use Rattle.unit_check.specs.First.{IsFirstOther}
use Rattle.unit_check.specs.Admission.{held_of, IsFresh, addresses_in, HasLinks, IsFirstStale, IsFirstBad, Admits}
use Rattle.unit_check.specs.Laws.{AnswersAreOne, JustTheRight, LeastIsTold, TextsAreAdmitted}
use Rattle.unit_check.proofs.Admitting.{is_admitted}
use Rattle.unit_check.proofs.Firsts.{same_first, fails_all, same_other}

-- ---- what is written of a unit is admitted

addresses_tied : (all fs : List Parts) → addresses_in (map (tied all) fs) ≡ addresses fs
addresses_tied all [] = refl
addresses_tied all (f ∷ fs) = ap (λ (xs : List ℕ). f.address ∷ xs) (addresses_tied all fs)

untied_again : (all fs : List Parts) → map (λ f. f.frag) (map (tied all) fs) ≡ fs
untied_again all [] = refl
untied_again all (f ∷ fs) = ap (λ (xs : List Parts). f ∷ xs) (untied_again all fs)

links_tied : (all fs : List Parts) → All (HasLinks (addresses all)) (map (tied all) fs)
links_tied all fs = All-map (HasLinks (addresses all)) (tied all) fs (λ k d lt. refl)

record IsRight (raw : Raw) (slot : Slot) : Type 0 where
  same : raw.slot ≡ slot
  fresh : All (IsFresh slot raw.image) raw.frags
  links : All (HasLinks (addresses_in raw.frags)) raw.frags

right : (raw : Raw) (slot : Slot) (u : Held) → IsUnit u → u.slot ≡ slot → raw_of u ≡ raw → IsRight raw slot
right raw slot u is same e = subst (λ (r : Raw). IsRight r slot) e (record {
  same = same;
  fresh = All-map (IsFresh slot u.image) (tied u.frags) u.frags (subst (λ (s : Slot). All (IsFreshFor s u.image) u.frags) same is.held.fresh);
  links = subst (λ (xs : List ℕ). All (HasLinks xs) (map (tied u.frags) u.frags)) (sym (addresses_tied u.frags u.frags)) (links_tied u.frags u.frags);
})

-- ---- a unit that was written is one

held : Slot → Code → List Parts → Held
held slot image frags = record { slot = slot; image = image; frags = frags }

same_held : (s t : Slot) (i j : Code) (fs gs : List Parts) → s ≡ t → i ≡ j → fs ≡ gs → held s i fs ≡ held t j gs
same_held s t i j fs gs a b c = rw (a, b, c) refl

same_unit : (u w : Held) → raw_of u ≡ raw_of w → u ≡ w
unfolding held
same_unit u w e =
    same_held u.slot w.slot u.image w.image u.frags w.frags (ap (λ (r : Raw). r.slot) e) (ap (λ (r : Raw). r.image) e)
    (sym (untied_again u.frags u.frags) ∙ ap (λ (r : Raw). map (λ f. f.frag) r.frags) e ∙ untied_again w.frags w.frags)

-- ---- there is one answer

stale_one : (slot : Slot) (image : Code) (fs : List Tied) (x y : ℕ) → IsFirstStale slot image fs x → IsFirstStale slot image fs y → x ≡ y
stale_one slot image fs x y a b = sym a.1.1 ∙ ap (λ (f : Tied). f.frag.address) (same_first (IsFresh slot image) fs a.0 b.0 a.1.0 b.1.0) ∙ b.1.1

bad_one : (addrs : List ℕ) (fs : List Tied) (x y e f : ℕ) → IsFirstBad addrs fs x e → IsFirstBad addrs fs y f → (x ≡ y) × (e ≡ f)
bad_one addrs fs x y e f a b =
    let one : a.0 ≡ b.0 = same_first (HasLinks addrs) fs a.0 b.0 a.1.0 b.1.0 in
    let here : IsFirstOther b.0.links (links_at addrs b.0.frag.exits) e = subst (λ (t : Tied). IsFirstOther t.links (links_at addrs t.frag.exits) e) one a.1.2 in
    (sym a.1.1 ∙ ap (λ (t : Tied). t.frag.address) one ∙ b.1.1, same_other b.0.links (links_at addrs b.0.frag.exits) e f here b.1.2)

same_bad : (x y e f : ℕ) → x ≡ y → e ≡ f → BadLink x e ≡ BadLink y f
same_bad x y e f a b = rw (a, b) refl

refused : AdmitErr → Result Held AdmitErr
refused e = Err e

-- an answer of right ones is Ok or Memory
right_only : (raw : Raw) (slot : Slot) (e : AdmitErr) → IsRight raw slot → Admits raw slot (Err e) → e ≡ Memory
right_only raw slot Foreign is a = absurd (a is.same)
right_only raw slot (NotFresh x) is a = absurd (fails_all (IsFresh slot raw.image) raw.frags a.1.0 a.1.1.0 is.fresh)
right_only raw slot (BadLink x e) is a = absurd (fails_all (HasLinks (addresses_in raw.frags)) raw.frags a.2.0 a.2.1.0 is.links)
right_only raw slot Memory is a = refl

err_one : (raw : Raw) (slot : Slot) (a b : AdmitErr) → Admits raw slot (Err a) → Admits raw slot (Err b) → (a ≡ Memory → ⊥) → (b ≡ Memory → ⊥) → a ≡ b
err_one raw slot Memory b p q na nb = absurd (na refl)
err_one raw slot a Memory p q na nb = absurd (nb refl)
err_one raw slot Foreign Foreign p q na nb = refl
err_one raw slot Foreign (NotFresh y) p q na nb = absurd (p q.0)
err_one raw slot Foreign (BadLink y f) p q na nb = absurd (p q.0)
err_one raw slot (NotFresh x) Foreign p q na nb = absurd (q p.0)
err_one raw slot (NotFresh x) (NotFresh y) p q na nb = ap NotFresh (stale_one slot raw.image raw.frags x y p.1 q.1)
err_one raw slot (NotFresh x) (BadLink y f) p q na nb = absurd (fails_all (IsFresh slot raw.image) raw.frags p.1.0 p.1.1.0 q.1)
err_one raw slot (BadLink x e) Foreign p q na nb = absurd (q p.0)
err_one raw slot (BadLink x e) (NotFresh y) p q na nb = absurd (fails_all (IsFresh slot raw.image) raw.frags q.1.0 q.1.1.0 p.1)
err_one raw slot (BadLink x e) (BadLink y f) p q na nb = let same = bad_one (addresses_in raw.frags) raw.frags x y e f p.2 q.2 in same_bad x y e f same.0 same.1

pub are_one : AnswersAreOne
unfolding refused
are_one raw slot (Ok u) (Ok w) a b na nb = ap (λ (x : Held). Ok x) (same_unit u w (a.2 ∙ sym b.2))
are_one raw slot (Ok u) (Err e) a b na nb = absurd (nb (ap refused (right_only raw slot e (right raw slot u a.0 a.1 a.2) b)))
are_one raw slot (Err e) (Ok w) a b na nb = absurd (na (ap refused (right_only raw slot e (right raw slot w b.0 b.1 b.2) a)))
are_one raw slot (Err e) (Err f) a b na nb = ap refused (err_one raw slot e f a b (λ m. na (ap refused m)) (λ m. nb (ap refused m)))

not_memory : (u : Held) → Ok u ≡ refused Memory → ⊥
unfolding refused
not_memory u e = absurd cc

pub are_admitted : TextsAreAdmitted
unfolding refused
are_admitted v u is has = (are_read v (raw_of u) (have_texts v u is has), λ a admits na. are_one (raw_of u) u.slot a (Ok u) admits (is, refl, refl) na (not_memory u))

-- ---- the least is told

all_above : (image : Code) (least low : ℕ) (fs : List Tied) → low ≤ least → AreFragments image least fs → All (λ f. low ≤ f.frag.address) fs
all_above image least low [] le are = All-nil (λ (f : Tied). low ≤ f.frag.address)
all_above image least low (f ∷ fs) le are =
    All-cons (λ (f : Tied). low ≤ f.frag.address) f fs (omega (arith, le, are.0.rises)) (all_above image (f.frag.address + 1) low fs (omega (arith, le, are.0.rises)) are.1)

least_of : (image : Code) (least : ℕ) (P : Tied → Type 0) (p : List Tied) (x : Tied) (q : List Tied) → AreFragments image least (p ++ x ∷ q) → All P p → All (λ f. (P f → ⊥) → x.frag.address ≤ f.frag.address) (p ++ x ∷ q)
least_of image least P [] x q are all =
    let Q : Tied → Type 0 = λ f. (P f → ⊥) → x.frag.address ≤ f.frag.address in
    let behind = all_above image (x.frag.address + 1) x.frag.address q (omega arith) are.1 in
    All-cons Q x q (λ n. omega arith) (All-weaker (λ (f : Tied). x.frag.address ≤ f.frag.address) Q (λ f h n. h) q behind)
least_of image least P (a ∷ p) x q are all =
    All-cons (λ (f : Tied). (P f → ⊥) → x.frag.address ≤ f.frag.address) a (p ++ x ∷ q) (λ n. absurd (n (All-head P a p all))) (least_of image (a.frag.address + 1) P p x q are.1 (All-tail P a p all))

pub least_told : LeastIsTold
least_told v raw slot address is admits =
    let first = admits.1.1.0 in
    let P : Tied → Type 0 = IsFresh slot raw.image in
    let are : AreFragments raw.image 0 (first.before ++ admits.1.0 ∷ first.behind) = subst (AreFragments raw.image 0) first.split is.fragments in
    let all = least_of raw.image 0 (IsFresh slot raw.image) first.before admits.1.0 first.behind are first.all in
    rw (← admits.1.1.1, first.split) all

-- ---- just the right

pub right_just : JustTheRight
right_just v raw slot is = (
  (λ a. let r = right raw slot (held_of raw) a.0 a.1 a.2 in (r.same, r.fresh, r.links)),
  (λ h. is_admitted v raw slot (held_of raw) is h.0 (subst (λ (s : Slot). All (IsFresh s raw.image) raw.frags) (sym h.0) h.1) h.2 refl),
)
