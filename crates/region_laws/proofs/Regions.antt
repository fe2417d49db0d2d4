-- Regions found in a memory that gains one, loses one, or has one made longer or shorter.
use Rattle.std.proofs.Common.{◌≡◌, ℕ, ◌+◌, ◌<◌, ◌==◌, Bool, true, false, [], ◌∷◌, ◌++◌, length, Option, Some, None, refl, sym, ◌∙◌, ap, subst, arith, inl, inr}
use Rattle.std.specs.Prelude.{find, nat_lt}
use Rattle.std.specs.List.{list_any}
use Rattle.std.proofs.lemmas.Bool.{cases_Bool, or_parts}
use Rattle.std.proofs.lemmas.Bool.Decides.{nat_tests}
use Rattle.std.proofs.lemmas.Option.{same_Some}
use Rattle.plain_machine.specs.Region.{Area, region_of, meets}
use Rattle.plain_machine.specs.Memory.{Memory, AreInRange, refusal, has_code, starts_at, without_first, with_first, with_length, resized, lengthened, data_flags}
use Rattle.engine.specs.Standing.{SameCode, shape}
use Rattle.engine.proofs.KeptCode.{found_is}
use Rattle.region_laws.specs.Heap.{runs_there}

-- ---- what is found

pub started : (x : ℕ) (r : Area) → starts_at x r ≡ true → r.start ≡ x
started x r h = grind (arith, nat_tests)

pub own_start : (r : Area) → starts_at r.start r ≡ true
own_start r = grind (arith, nat_tests)

-- what is found in a memory is found in one that gained a region behind all
pub find-more : (p : Area → Bool) (m : Memory) (r q : Area) → find p m ≡ Some q → find p (m ++ r ∷ []) ≡ Some q
find-more p [] r q e = absurd (cc)
find-more p (x ∷ xs) r q e = elim (cases_Bool (p x)) [
  | inl here ↦ let is : Some x ≡ Some q = rw here at e in rw here is
  | inr other ↦ let rest : find p xs ≡ Some q = rw other at e in rw other (find-more p xs r q rest)
]

pub find-new : (p : Area → Bool) (m : Memory) (r : Area) → find p m ≡ None → p r ≡ true → find p (m ++ r ∷ []) ≡ Some r
find-new p [] r none here = rw here refl
find-new p (x ∷ xs) r none here = elim (cases_Bool (p x)) [
  | inl found ↦ let impossible = rw found at none in absurd (cc)
  | inr other ↦ let rest : find p xs ≡ None = rw other at none in rw other (find-new p xs r rest here)
]

-- and in one that lost another
pub find-without : (p gone : Area → Bool) (m : Memory) (q : Area) → find p m ≡ Some q → gone q ≡ false → find p (without_first gone m) ≡ Some q
find-without p gone [] q e stays = absurd (cc)
find-without p gone (x ∷ xs) q e stays = elim (cases_Bool (p x)) [
  | inl found ↦
      let is : Some x ≡ Some q = rw found at e in
      let kept : gone x ≡ false = subst (λ y. gone y ≡ false) (sym (same_Some x q is)) stays in
      rw kept (rw found is)
  | inr other ↦
      let rest : find p xs ≡ Some q = rw other at e in
      elim (cases_Bool (gone x)) [ inl lost ↦ rw lost rest | inr kept ↦ rw kept (rw other (find-without p gone xs q rest stays)) ]
]

-- ---- no region starts where one fits

first_met : (start len : ℕ) (q : Area) → 0 < length q.bytes → 0 < len → starts_at start q ≡ true → meets start len q ≡ true
first_met start len q some more here = grind (arith, nat_tests)

pub none-there : (m : Memory) (start len : ℕ) → AreInRange m → 0 < len → list_any (meets start len) m ≡ false → find (starts_at start) m ≡ None
none-there [] start len fits some apart = refl
none-there (q ∷ qs) start len fits some apart =
    let parts = or_parts (meets start len q) (list_any (meets start len) qs) apart in
    elim (cases_Bool (starts_at start q)) [
      | inl here ↦ let met : meets start len q ≡ true = first_met start len q fits.0 some here in absurd (cc)
      | inr elsewhere ↦ rw elsewhere (none-there qs start len fits.2 some parts.1)
    ]

pub refusal-apart : (m : Memory) (start len : ℕ) → refusal m start len ≡ None → list_any (meets start len) m ≡ false
refusal-apart m start len e = elim (cases_Bool (nat_lt 4294967295 (start + len))) [
  | inl past ↦ let impossible = rw past at e in absurd (cc)
  | inr within ↦ elim (cases_Bool (list_any (meets start len) m)) [
    | inl met ↦ let impossible = rw (within, met) at e in absurd (cc)
    | inr apart ↦ apart
  ]
]

-- ---- code, where a region changes that may not be executed

off : (a : ℕ) (q : Area) → q.flags.execute ≡ false → has_code a 1 q ≡ false
off a q h = rw h refl

-- one more, behind all
pub code-more : (m : Memory) (r : Area) (a : ℕ) → has_code a 1 r ≡ false → find (has_code a 1) (m ++ r ∷ []) ≡ find (has_code a 1) m
code-more [] r a h = rw h refl
code-more (q ∷ qs) r a h = elim (cases_Bool (has_code a 1 q)) [ inl here ↦ rw here refl | inr not_here ↦ rw not_here (code-more qs r a h) ]

-- one less
pub code-without : (m : Memory) (start a : ℕ) → runs_there (find (starts_at start) m) ≡ Some false → find (has_code a 1) (without_first (starts_at start) m) ≡ find (has_code a 1) m
code-without [] start a h = refl
code-without (q ∷ qs) start a h = elim (cases_Bool (starts_at start q)) [
  | inl here ↦ let is : Some q.flags.execute ≡ Some false = rw here at h in let no = off a q (same_Some q.flags.execute false is) in rw here (rw no refl)
  | inr not_here ↦
      let rest : runs_there (find (starts_at start) qs) ≡ Some false = rw not_here at h in
      rw not_here (elim (cases_Bool (has_code a 1 q)) [ inl code ↦ rw code refl | inr clear ↦ rw clear (code-without qs start a rest) ])
]

-- one made longer or shorter
code-longer : (m : Memory) (start len a : ℕ) → runs_there (find (starts_at start) m) ≡ Some false → find (has_code a 1) (with_first (starts_at start) (with_length len) m) ≡ find (has_code a 1) m
code-longer [] start len a h = refl
code-longer (q ∷ qs) start len a h = elim (cases_Bool (starts_at start q)) [
  | inl here ↦
      let is : Some q.flags.execute ≡ Some false = rw here at h in
      let runs : q.flags.execute ≡ false = same_Some q.flags.execute false is in
      let no = off a q runs in
      let no' = off a (with_length len q) runs in
      rw here (rw (no, no') refl)
  | inr not_here ↦
      let rest : runs_there (find (starts_at start) qs) ≡ Some false = rw not_here at h in
      rw not_here (elim (cases_Bool (has_code a 1 q)) [ inl code ↦ rw code refl | inr clear ↦ rw clear (code-longer qs start len a rest) ])
]

data_off : (start len a : ℕ) → has_code a 1 (region_of start data_flags [] len) ≡ false
data_off start len a = refl

pub code-new : (m : Memory) (start len : ℕ) → SameCode m (lengthened None m start len)
code-new m start len a = code-more m (region_of start data_flags [] len) a (data_off start len a)

code-lengthened : (m : Memory) (start len : ℕ) (o : Option Area) → runs_there (find (starts_at start) m) ≡ Some false → SameCode m (lengthened o m start len)
code-lengthened m start len None h a = code-new m start len a
code-lengthened m start len (Some r) h a = code-longer m start len a h

pub code-resized : (m : Memory) (start len : ℕ) → runs_there (find (starts_at start) m) ≡ Some false → SameCode m (resized m start len)
code-resized m start len h a = elim (cases_Bool (len == 0)) [
  | inl none ↦ rw none (code-without m start a h)
  | inr some ↦ rw some (code-lengthened m start len (find (starts_at start) m) h a)
]

-- ---- a region that is made longer or shorter

pub runs-longer : (m : Memory) (start len : ℕ) → runs_there (find (starts_at start) m) ≡ Some false → runs_there (find (starts_at start) (with_first (starts_at start) (with_length len) m)) ≡ Some false
runs-longer [] start len h = h
runs-longer (q ∷ qs) start len h = elim (cases_Bool (starts_at start q)) [
  | inl here ↦ let is : Some q.flags.execute ≡ Some false = rw here at h in rw here (rw here is)
  | inr elsewhere ↦ let rest : runs_there (find (starts_at start) qs) ≡ Some false = rw elsewhere at h in rw elsewhere (rw elsewhere (runs-longer qs start len rest))
]

new_start : (start len : ℕ) → starts_at start (region_of start data_flags [] len) ≡ true
new_start start len = grind (arith, nat_tests)

pub runs-new : (m : Memory) (start len : ℕ) → find (starts_at start) m ≡ None → runs_there (find (starts_at start) (m ++ region_of start data_flags [] len ∷ [])) ≡ Some false
runs-new m start len none = ap runs_there (find-new (starts_at start) m (region_of start data_flags [] len) none (new_start start len))

pub runs-lengthened : (m : Memory) (start len : ℕ) (o : Option Area) → find (starts_at start) m ≡ o → runs_there (find (starts_at start) m) ≡ Some false → runs_there (find (starts_at start) (lengthened o m start len)) ≡ Some false
runs-lengthened m start len None e h = runs-new m start len e
runs-lengthened m start len (Some r) e h = runs-longer m start len h

pub find-longer : (m : Memory) (start len x : ℕ) (r : Area) → (start ≡ x → ⊥) → find (starts_at x) m ≡ Some r → find (starts_at x) (with_first (starts_at start) (with_length len) m) ≡ Some r
find-longer [] start len x r apart e = absurd (cc)
find-longer (q ∷ qs) start len x r apart e = elim (cases_Bool (starts_at start q)) [
  | inl here ↦ elim (cases_Bool (starts_at x q)) [
    | inl both ↦ absurd (apart (sym (started start q here) ∙ started x q both))
    | inr other ↦ let rest : find (starts_at x) qs ≡ Some r = rw other at e in rw here (rw other rest)
  ]
  | inr not_here ↦ elim (cases_Bool (starts_at x q)) [
    | inl found ↦ let is : Some q ≡ Some r = rw found at e in rw not_here (rw found is)
    | inr other ↦ let rest : find (starts_at x) qs ≡ Some r = rw other at e in rw not_here (rw other (find-longer qs start len x r apart rest))
  ]
]

pub find-lengthened : (m : Memory) (start len x : ℕ) (o : Option Area) (r : Area) → (start ≡ x → ⊥) → find (starts_at x) m ≡ Some r → find (starts_at x) (lengthened o m start len) ≡ Some r
find-lengthened m start len x None r apart e = find-more (starts_at x) m (region_of start data_flags [] len) r e
find-lengthened m start len x (Some q) r apart e = find-longer m start len x r apart e

elsewhere : (x start : ℕ) (r : Area) → starts_at x r ≡ true → (start ≡ x → ⊥) → starts_at start r ≡ false
elsewhere x start r at apart = elim (cases_Bool (starts_at start r)) [ inl here ↦ absurd (apart (sym (started start r here) ∙ started x r at)) | inr other ↦ other ]

pub find-resized : (m : Memory) (start len x : ℕ) (r : Area) → (start ≡ x → ⊥) → find (starts_at x) m ≡ Some r → find (starts_at x) (resized m start len) ≡ Some r
find-resized m start len x r apart e = elim (cases_Bool (len == 0)) [
  | inl none ↦ rw none (find-without (starts_at x) (starts_at start) m r e (elsewhere x start r (found_is (starts_at x) m r e) apart))
  | inr some ↦ rw some (find-lengthened m start len x (find (starts_at start) m) r apart e)
]

-- ---- shapes

pub same-runs : (a b : Option Area) → shape a ≡ shape b → runs_there a ≡ runs_there b
same-runs None None e = refl
same-runs None (Some r) e = absurd (cc)
same-runs (Some q) None e = absurd (cc)
same-runs (Some q) (Some r) e = ap (λ p. Some p.0) (same_Some (q.flags.execute, length q.bytes) (r.flags.execute, length r.bytes) e)

shape_some : (o : Option Area) (kind : Bool × ℕ) → shape o ≡ Some kind → (r : Area) × (o ≡ Some r)
shape_some None kind e = absurd (cc)
shape_some (Some r) kind e = (r, refl)

-- the shape stays where the region does
pub shape-by : (m after : Memory) (x : ℕ) (kind : Bool × ℕ) → shape (find (starts_at x) m) ≡ Some kind → ((r : Area) → find (starts_at x) m ≡ Some r → find (starts_at x) after ≡ Some r) → shape (find (starts_at x) after) ≡ Some kind
shape-by m after x kind is stays = let one = shape_some (find (starts_at x) m) kind is in ap shape (stays one.0 one.1) ∙ ap shape (sym one.1) ∙ is
