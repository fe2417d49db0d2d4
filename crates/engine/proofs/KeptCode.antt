-- Where code is found in a memory, and that a store elsewhere keeps it.
use Rattle.std.proofs.Common.{◌≡◌, ℕ, ◌<◌, Bool, true, false, ◌&&◌, List, [], ◌∷◌, length, Some, None, refl, ap, arith, ⊎_elim, subst}
use Rattle.std.specs.Prelude.{find}
use Rattle.std.specs.List.{list_any}
use Rattle.std.proofs.lemmas.Bool.{or_parts, cases_Bool}
use Rattle.std.proofs.lemmas.Bool.Decides.{nat_tests}
use Rattle.std.proofs.lemmas.Option.{same_Some}
use Rattle.plain_machine.specs.Region.{Area, holds, meets, with_bytes}
use Rattle.plain_machine.specs.Memory.{Memory, AreDisjoint, has_code, put, touches_code}
use Rattle.guest_mem.proofs.MemoryLemmas.{with_bytes_keeps}

-- what fails on all fails on what is found
found_fails : {X : Type 0} (p q : X → Bool) (xs : List X) (x : X) → find p xs ≡ Some x → list_any q xs ≡ false → q x ≡ false
found_fails p q [] x e f = absurd (cc)
found_fails p q (y ∷ ys) x e f =
    let parts = or_parts (q y) (list_any q ys) f in
    ⊎_elim
    (λ yes. let here = rw yes at e in subst (λ z. q z ≡ false) (same_Some y x here) parts.0)
    (λ no. let rest = rw no at e in found_fails p q ys x rest parts.1)
    (cases_Bool (p y))

-- what is found passes
pub found_is : {X : Type 0} (p : X → Bool) (xs : List X) (x : X) → find p xs ≡ Some x → p x ≡ true
found_is p [] x e = absurd (cc)
found_is p (y ∷ ys) x e =
    ⊎_elim
    (λ yes. let here = rw yes at e in subst (λ z. p z ≡ true) (same_Some y x here) yes)
    (λ no. let rest = rw no at e in found_is p ys x rest)
    (cases_Bool (p y))

pub and_left : (a b : Bool) → (a && b) ≡ true → a ≡ true
and_left true b h = refl
and_left false b h = cc

pub and_right : (a b : Bool) → (a && b) ≡ true → b ≡ true
and_right true b h = h
and_right false b h = cc

-- two regions that have the bytes have a byte in common
common : (x n : ℕ) (q r : Area) → 0 < n → holds x n q ≡ true → holds x n r ≡ true → meets q.start (length q.bytes) r ≡ true
common x n q r some a b = grind (arith, nat_tests)

-- the one region that has these bytes is found
pub holds-found : (a x n : ℕ) (m : Memory) (r : Area) → AreDisjoint m → 0 < n → find (has_code a 1) m ≡ Some r → holds x n r ≡ true → find (holds x n) m ≡ Some r
holds-found a x n [] r d some e h = absurd (cc)
holds-found a x n (q ∷ qs) r d some e h =
    ⊎_elim
    (λ yes. let here = rw yes at e in let same = same_Some q r here in let held : holds x n q ≡ true = rw same h in rw held (ap Some same))
    (λ no. let rest = rw no at e in
    ⊎_elim
    (λ held. let meet = common x n q r some held h in
    let apart = found_fails (has_code a 1) (meets q.start (length q.bytes)) qs r rest d.0 in absurd (cc))
    (λ not_held. rw not_held (holds-found a x n qs r d.1 some rest h))
    (cases_Bool (holds x n q)))
    (cases_Bool (has_code a 1 q))

-- ---- where no word can be fetched

-- a region that meets the byte, and one that holds it with more
common_byte : (a n : ℕ) (q r : Area) → 0 < n → holds a n q ≡ true → meets a 1 r ≡ true → meets q.start (length q.bytes) r ≡ true
common_byte a n q r some h b = grind (arith, nat_tests)

common_byte' : (a n : ℕ) (q r : Area) → 0 < n → holds a n r ≡ true → meets a 1 q ≡ true → meets q.start (length q.bytes) r ≡ true
common_byte' a n q r some h b = grind (arith, nat_tests)

-- no other region has the bytes
none_beside : (a n : ℕ) (q : Area) (qs : Memory) → 0 < n → meets a 1 q ≡ true → list_any (meets q.start (length q.bytes)) qs ≡ false → find (holds a n) qs ≡ None
none_beside a n q [] some b f = refl
none_beside a n q (r ∷ rs) some b f =
    let parts = or_parts (meets q.start (length q.bytes) r) (list_any (meets q.start (length q.bytes)) rs) f in
    ⊎_elim
    (λ held. let meet = common_byte' a n q r some held b in absurd (cc))
    (λ not_held. rw not_held (none_beside a n q rs some b parts.1))
    (cases_Bool (holds a n r))

-- where the region of the byte does not have all, no region has
pub holds-none : (a n : ℕ) (m : Memory) (r : Area) → AreDisjoint m → 0 < n → find (has_code a 1) m ≡ Some r → holds a n r ≡ false → find (holds a n) m ≡ None
holds-none a n [] r d some e h = refl
holds-none a n (q ∷ qs) r d some e h =
    ⊎_elim
    (λ yes. let here = rw yes at e in let same = same_Some q r here in let lacks : holds a n q ≡ false = rw same h in
    rw lacks (none_beside a n q qs some (and_right q.flags.execute (meets a 1 q) yes) d.0))
    (λ no. let rest = rw no at e in
    ⊎_elim
    (λ held. let byte = and_right r.flags.execute (meets a 1 r) (found_is (has_code a 1) qs r rest) in
    let meet = common_byte a n q r some held byte in
    let apart = found_fails (has_code a 1) (meets q.start (length q.bytes)) qs r rest d.0 in absurd (cc))
    (λ not_held. rw not_held (holds-none a n qs r d.1 some rest h))
    (cases_Bool (holds a n q)))
    (cases_Bool (has_code a 1 q))

-- ---- a store elsewhere

same_meets : (addr n : ℕ) (q r : Area) → 0 < n → holds addr n q ≡ true → r.start ≡ q.start → length r.bytes ≡ length q.bytes → meets addr n r ≡ true
same_meets addr n q r some h s l = grind (arith, nat_tests)

and_false : (a b : Bool) → (a && b) ≡ false → b ≡ true → a ≡ false
and_false true b h t = absurd (cc)
and_false false b h t = refl

-- bytes that are written where nothing may be executed change no code
pub code-put : (a addr : ℕ) (bytes : List ℕ) (m : Memory) → 0 < length bytes → touches_code (put addr bytes m) addr (length bytes) ≡ false →
    find (has_code a 1) (put addr bytes m) ≡ find (has_code a 1) m
code-put a addr bytes [] some f = refl
code-put a addr bytes (q ∷ qs) some f =
    ⊎_elim
    (λ yes.
    let f' = rw yes at f in
    let parts = or_parts (has_code addr (length bytes) (with_bytes addr bytes q)) (list_any (has_code addr (length bytes)) qs) f' in
    let keeps = with_bytes_keeps addr bytes q yes in
    let met = same_meets addr (length bytes) q (with_bytes addr bytes q) some yes keeps.start keeps.length in
    let off : q.flags.execute ≡ false = and_false q.flags.execute (meets addr (length bytes) (with_bytes addr bytes q)) parts.0 met in
    rw yes (rw off refl))
    (λ no.
    let f' = rw no at f in
    let parts = or_parts (has_code addr (length bytes) q) (list_any (has_code addr (length bytes)) (put addr bytes qs)) f' in
    let rest = code-put a addr bytes qs some parts.1 in
    rw no (rw rest refl))
    (cases_Bool (holds addr (length bytes) q))
