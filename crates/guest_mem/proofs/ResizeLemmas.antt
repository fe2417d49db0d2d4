use Rattle.std.proofs.Common.{◌++◌, get_or, set, ⊎_elim, position, ◌≡◌, ℕ, ◌+◌, ◌<◌, ◌≤◌, Bool, true, false, not, ◌||◌, List, [], ◌∷◌, length, Some, None, refl, sym, ◌∙◌, ap, arith, eqb}
use Rattle.std.specs.Prelude.{find, ◌&&◌}
use Rattle.std.specs.List.{list_any}
use Rattle.std.proofs.lemmas.Bool.{or_parts, or_from, cases_Bool, eqb-true, ne_eqb, eq-eqb}
use Rattle.std.proofs.lemmas.Bool.Decides.{nat_tests}
use Rattle.std.proofs.lemmas.List.{length-append, length-replicate, length-take}
use Rattle.guest_mem.proofs.MemoryLemmas.{taken_at, found_at, byte_count-without}
use Rattle.plain_machine.specs.Region.{Area, meets, region_of}
use Rattle.plain_machine.specs.declared.access.Flags.{Flags}
use Rattle.plain_machine.specs.Memory.{Memory, AreDisjoint, AreInRange, IsMemory, byte_count, with_first, without_first, others, starts_at, with_length, refusal, resized}

pub without_none : {X : Type 0} (p : X → Bool) (xs : List X) → find p xs ≡ None → without_first p xs ≡ xs
without_none p [] e = refl
without_none p (x ∷ xs) e =
    ⊎_elim (λ yes. let c = rw yes at e in absurd (cc)) (λ no. rw no (ap (λ ys. x ∷ ys) (without_none p xs (rw no at e)))) (cases_Bool (p x))

-- ---- at length 0 nothing is refused

meets_zero : (start : ℕ) (r : Area) → meets start 0 r ≡ false
meets_zero start r = grind (arith, nat_tests)

none_meet : (start : ℕ) (m : Memory) → list_any (meets start 0) m ≡ false
none_meet start [] = refl
none_meet start (r ∷ rs) = or_from (meets start 0 r) (list_any (meets start 0) rs) (meets_zero start r) (none_meet start rs)

pub byte_count-without_le : (p : Area → Bool) (m : Memory) → byte_count (without_first p m) ≤ byte_count m
byte_count-without_le p [] = omega arith
byte_count-without_le p (x ∷ xs) = ⊎_elim (λ yes. rw yes (omega arith)) (λ no. rw no (omega (arith, byte_count-without_le p xs))) (cases_Bool (p x))

pub refusal_zero : (m : Memory) (start : ℕ) → start ≤ 4294967295 → byte_count m ≤ 8388608 → refusal m start 0 ≡ None
refusal_zero m start h limit = rw (none_meet start m) (grind (arith, nat_tests))

-- ---- which others are met

no_start : (r x : Area) → meets r.start (length r.bytes) x ≡ false → 0 < length r.bytes → 0 < length x.bytes → eqb x.start r.start ≡ false
no_start r x e p q = grind (arith, nat_tests)

not_there : (x : Area) (start len : ℕ) → meets start len x ≡ false → 0 < len → 0 < length x.bytes → eqb x.start start ≡ false
not_there x start len e p q = grind (arith, nat_tests)

none_start : (r : Area) (start len : ℕ) (m : Memory) → r.start ≡ start → list_any (meets r.start (length r.bytes)) m ≡ false → 0 < length r.bytes → AreInRange m → list_any (λ x. not (starts_at start x) && meets start len x) m ≡ list_any (meets start len) m
none_start r start len [] s e p a = refl
none_start r start len (x ∷ xs) s e p a =
    let parts = or_parts (meets r.start (length r.bytes) x) (list_any (meets r.start (length r.bytes)) xs) e in
    let apart : eqb x.start start ≡ false = ap (λ n. eqb x.start n) (sym s) ∙ no_start r x parts.0 p a.0 in
    rw apart (ap (λ b. meets start len x || b) (none_start r start len xs s parts.1 p a.2))

pub others_meet : (start len : ℕ) (m : Memory) → AreDisjoint m → AreInRange m → list_any (λ x. not (starts_at start x) && meets start len x) m ≡ list_any (meets start len) (others m start)
others_meet start len [] d a = refl
others_meet start len (r ∷ rs) d a =
    ⊎_elim
    (λ yes. rw yes (none_start r start len rs (eqb-true r.start start yes) d.0 a.0 a.2))
    (λ no. rw no (ap (λ b. meets start len r || b) (others_meet start len rs d.1 a.2)))
    (cases_Bool (starts_at start r))

-- ---- the invariant

length-with_length : (len : ℕ) (r : Area) → length (with_length len r).bytes ≡ len
length-with_length len r = simp (length-append, length-take, length-replicate) (omega arith)

list_any-changed : {X : Type 0} (p q : X → Bool) (f : X → X) (xs : List X) → list_any q xs ≡ false → ((x : X) → p x ≡ true → q (f x) ≡ false) → list_any q (with_first p f xs) ≡ false
list_any-changed p q f [] e h = refl
list_any-changed p q f (x ∷ xs) e h =
    let parts = or_parts (q x) (list_any q xs) e in
    ⊎_elim
    (λ yes. rw yes (or_from (q (f x)) (list_any q xs) (h x yes) parts.1))
    (λ no. rw no (or_from (q x) (list_any q (with_first p f xs)) parts.0 (list_any-changed p q f xs parts.1 h)))
    (cases_Bool (p x))

apart_comm : (r x : Area) (start len : ℕ) → x.start ≡ start → length x.bytes ≡ len → meets start len r ≡ false → meets r.start (length r.bytes) x ≡ false
apart_comm r x start len s l e = grind (arith, nat_tests)

AreDisjoint-resized : (start len : ℕ) (m : Memory) → AreDisjoint m → list_any (meets start len) (others m start) ≡ false → AreDisjoint (with_first (starts_at start) (with_length len) m)
AreDisjoint-resized start len [] d e = tt
AreDisjoint-resized start len (r ∷ rs) d e =
    ⊎_elim
    (λ yes. let c = rw yes at e in rw yes (rw (length-with_length len r, eqb-true r.start start yes) c, d.1))
    (λ no.
    let parts = or_parts (meets start len r) (list_any (meets start len) (others rs start)) (rw no at e) in
    rw no (
      list_any-changed (starts_at start) (meets r.start (length r.bytes)) (with_length len) rs d.0 (λ x yes. apart_comm r (with_length len x) start len (eqb-true x.start start yes) (length-with_length len x) parts.0),
      AreDisjoint-resized start len rs d.1 parts.1,
    ))
    (cases_Bool (starts_at start r))

AreInRange-resized : (start len : ℕ) (m : Memory) → AreInRange m → 0 < len → start + len ≤ 4294967295 → AreInRange (with_first (starts_at start) (with_length len) m)
AreInRange-resized start len [] a p q = tt
AreInRange-resized start len (r ∷ rs) a p q =
    ⊎_elim
    (λ yes. let l : length (with_length len r).bytes ≡ len = length-with_length len r in let s : r.start ≡ start = eqb-true r.start start yes in rw yes (omega arith, omega arith, a.2))
    (λ no. rw no (a.0, a.1, AreInRange-resized start len rs a.2 p q))
    (cases_Bool (starts_at start r))

byte_count-resized : (p : Area → Bool) (len : ℕ) (m : Memory) (r : Area) → find p m ≡ Some r → byte_count (with_first p (with_length len) m) ≡ byte_count (without_first p m) + len
byte_count-resized p len [] r e = absurd (cc)
byte_count-resized p len (x ∷ xs) r e =
    ⊎_elim
    (λ yes. let l : length (with_length len x).bytes ≡ len = length-with_length len x in rw yes (omega arith))
    (λ no. rw no (let rest = byte_count-resized p len xs r (rw no at e) in omega arith))
    (cases_Bool (p x))

-- what `lengthen` leaves of the invariant
pub lengthened_is : (old : Memory) (start len : ℕ) (r : Area) → find (starts_at start) old ≡ Some r → IsMemory old → list_any (meets start len) (others old start) ≡ false → 0 < len → start + len ≤ 4294967295 → byte_count (others old start) + len ≤ 8388608 → IsMemory (with_first (starts_at start) (with_length len) old)
lengthened_is old start len r e is apart some past limit = record {
  disjoint = AreDisjoint-resized start len old is.disjoint apart;
  in_range = AreInRange-resized start len old is.in_range some past;
  limited = omega (arith, byte_count-resized (starts_at start) len old r e);
}

pub rest_is : (p : Area → Bool) (m : Memory) (i : ℕ) (r : Area) (sum len : ℕ) → position p m ≡ Some i → r ≡ get_or m i r → sum ≡ byte_count m → len ≡ length r.bytes → sum ≡ byte_count (without_first p m) + len
rest_is p m i r sum len e is s l =
    let at = taken_at p m i r e in
    let count = byte_count-without p m r (at.0 ∙ ap (λ x. Some x) (sym is)) in
    omega arith

-- what `lengthen` leaves
pub set_is : (old : Memory) (start len i : ℕ) (r : Area) → position (starts_at start) old ≡ Some i → r ≡ get_or old i r → set old i (with_length len r) ≡ with_first (starts_at start) (with_length len) old
set_is old start len i r e is = ap (λ x. set old i (with_length len x)) is ∙ sym (found_at (starts_at start) (with_length len) old i r e).2

pub made_is_resized : (m : Memory) (start len i : ℕ) (r : Area) → position (starts_at start) m ≡ Some i → 0 < len → resized m start len ≡ with_first (starts_at start) (with_length len) m
made_is_resized m start len i r e h =
    let at = taken_at (starts_at start) m i r e in
    let some : eqb len 0 ≡ false = ne_eqb len 0 (λ z. omega arith) in
    rw (some, at.0) refl

pub kept_longer : (old new : Memory) (start len i : ℕ) (r : Area) (sum : ℕ) → position (starts_at start) old ≡ Some i → new ≡ with_first (starts_at start) (with_length len) old → IsMemory old → list_any (meets start len) (others old start) ≡ false → 0 < len → start + len ≤ 4294967295 → sum ≡ byte_count (others old start) → sum + len ≤ 8388608 → IsMemory new × (sum + len ≡ byte_count new)
kept_longer old new start len i r sum e made is apart some past s limit =
    let at = taken_at (starts_at start) old i r e in
    let count = byte_count-resized (starts_at start) len old (get_or old i r) at.0 in
    rw made (lengthened_is old start len (get_or old i r) at.0 is apart some past (omega arith), omega arith)

-- at length 0
pub refusal_none : (m : Memory) (start len : ℕ) → len ≡ 0 → start ≤ 4294967295 → IsMemory m → refusal (others m start) start len ≡ None
refusal_none m start len e h is = rw e (refusal_zero (others m start) start h (omega (arith, is.limited, byte_count-without_le (starts_at start) m)))

pub some_found : {X : Type 0} (p : X → Bool) (xs : List X) (i : ℕ) → position p xs ≡ Some i → (x : X) × (find p xs ≡ Some x)
some_found p [] i e = absurd (cc)
some_found p (x ∷ xs) i e = (get_or (x ∷ xs) i x, (taken_at p (x ∷ xs) i x e).0)

pub others-push : (m : Memory) (r : Area) (start len : ℕ) → r.start ≡ start → list_any (meets start len) m ≡ false → 0 < len → AreInRange m → others (m ++ r ∷ []) start ≡ m
others-push [] r start len s e p a =
    let same : eqb r.start start ≡ true = eq-eqb r.start start s in
    rw same refl
others-push (x ∷ xs) r start len s e p a =
    let parts = or_parts (meets start len x) (list_any (meets start len) xs) e in
    let apart : eqb x.start start ≡ false = not_there x start len parts.0 p a.0 in
    rw apart (ap (λ ys. x ∷ ys) (others-push xs r start len s parts.1 p a.2))

pub undone : (old new : Memory) (r : Area) (start len sum : ℕ) (flags : Flags) (first : List ℕ) → new ≡ old ++ r ∷ [] → r ≡ region_of start flags first len → IsMemory old → list_any (meets start len) old ≡ false → 0 < len → others new start ≡ old
undone old new r start len sum flags first e is good apart some =
    rw e (others-push old r start len (ap (λ (x : Area). x.start) is) apart some good.in_range)
