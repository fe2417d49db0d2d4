-- Names of slots and of modules.
use Rattle.std.proofs.Common.{◌≡◌, ℕ, zero, suc, ◌+◌, ◌<◌, Bool, true, false, not, cond, List, [], ◌∷◌, ◌++◌, length, map, All, Option, Some, None, Result, Ok, Err, option_map, refl, ap, sym, subst, ◌∙◌, arith, ◌⊎◌, inl, inr, true≢false, eq-eqb}
use Rattle.std.specs.Prelude.{slice_get, is_some, codes}
use Rattle.std.specs.List.{position_from}
use Rattle.std.specs.Str.{bytes_eq, is_utf8}
use Rattle.std.proofs.lemmas.Bool.{and_parts, cases_Bool}
use Rattle.std.proofs.lemmas.List.{append_assoc, append-nil, map_push}
use Rattle.std.proofs.lemmas.Option.{same_Some, slice_get-map, slice_get_within, get_or_from_slice_get}
use Rattle.unit_set.specs.Slot.{Slot, IsSlot, slot_text}
use Rattle.unit_set.specs.Laws.{SpellingsAreOne}
use Rattle.manifest.specs.Names.{are_distinct, is_among}
use Rattle.slot_list.specs.Laws.{AreDistinct, SpellingsDiffer}

-- ---- spellings

slot_before : (o : Option Slot) (text : List ℕ) → option_map slot_text o ≡ Some text → (slot : Slot) × (o ≡ Some slot) × (slot_text slot ≡ text)
slot_before None text h = absurd cc
slot_before (Some slot) text h = (slot, refl, same_Some (slot_text slot) text h)

slot_in : (slots : List Slot) (i : ℕ) (text : List ℕ) → slice_get (map slot_text slots) i ≡ Some text → (slot : Slot) × (slice_get slots i ≡ Some slot) × (slot_text slot ≡ text)
slot_in slots i text h = slot_before (slice_get slots i) text (sym (slice_get-map slot_text slots i) ∙ h)

all_at : (slots : List Slot) → All IsSlot slots → (i : ℕ) (slot : Slot) → slice_get slots i ≡ Some slot → IsSlot slot
all_at slots all i slot h = subst IsSlot (get_or_from_slice_get slots i slot slot h) (all i slot (slice_get_within slots i slot h))

pub spelled_apart : SpellingsAreOne → SpellingsDiffer
spelled_apart are_one slots all distinct i j text at_i at_j =
    let a = slot_in slots i text at_i in
    let b = slot_in slots j text at_j in
    let one : a.0 ≡ b.0 = are_one a.0 b.0 (all_at slots all i a.0 a.1) (all_at slots all j b.0 b.1) (a.2 ∙ sym b.2) in
    distinct i j b.0 (a.1 ∙ ap Some one) b.1

-- ---- names that differ

bytes_self : (n : List ℕ) → bytes_eq n n ≡ true
bytes_self [] = refl
bytes_self (b ∷ n) = rw (eq-eqb b b refl) (bytes_self n)

not_true : (b : Bool) → not b ≡ true → b ≡ false
not_true true h = absurd cc
not_true false h = refl

-- a name that is not among them stands nowhere
nowhere : (n : List ℕ) (names : List (List ℕ)) (s i : ℕ) → is_some (position_from (bytes_eq n) s names) ≡ false → slice_get names i ≡ Some n → ⊥
nowhere n [] s i none at = absurd cc
nowhere n (x ∷ names) s zero none at =
    let here : bytes_eq n x ≡ true = ap (bytes_eq n) (same_Some x n at) ∙ bytes_self n in
    true≢false (sym (ap (λ b. is_some (cond b (Some s) (position_from (bytes_eq n) (s + 1) names))) here) ∙ none)
nowhere n (x ∷ names) s (suc i) none at = elim (cases_Bool (bytes_eq n x)) [
  | inl here ↦ true≢false (sym (ap (λ b. is_some (cond b (Some s) (position_from (bytes_eq n) (s + 1) names))) here) ∙ none)
  | inr apart ↦ nowhere n names (s + 1) i (sym (ap (λ b. is_some (cond b (Some s) (position_from (bytes_eq n) (s + 1) names))) apart) ∙ none) at
]

-- names of which none is another stand at one place each
pub apart_by : (names : List (List ℕ)) → are_distinct names ≡ true → AreDistinct names
apart_by [] distinct i j x at_i at_j = absurd cc
apart_by (n ∷ ns) distinct zero zero x at_i at_j = refl
apart_by (n ∷ ns) distinct zero (suc j) x at_i at_j = absurd (nowhere n ns 0 j (not_true (is_among n ns) (and_parts (not (is_among n ns)) (are_distinct ns) distinct).0) (at_j ∙ sym at_i))
apart_by (n ∷ ns) distinct (suc i) zero x at_i at_j = absurd (nowhere n ns 0 i (not_true (is_among n ns) (and_parts (not (is_among n ns)) (are_distinct ns) distinct).0) (at_i ∙ sym at_j))
apart_by (n ∷ ns) distinct (suc i) (suc j) x at_i at_j = ap suc (apart_by ns (and_parts (not (is_among n ns)) (are_distinct ns) distinct).1 i j x at_i at_j)
