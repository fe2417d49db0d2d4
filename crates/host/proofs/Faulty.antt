-- Slots on which the shelf failed.
use Rattle.std.proofs.Common.{◌≡◌, ℕ, zero, suc, ◌+◌, ◌<◌, ◌==◌, Bool, true, false, List, [], ◌∷◌, length, if◌then◌else◌, Option, Some, None, refl, sym, ◌∙◌, ap, subst, ⊎_elim, ◌⊎◌, inl, inr, arith}
use Rattle.std.specs.Prelude.{◌&&◌, ◌||◌, slice_get, slice_index_or, unwrap_or, option_map}
use Rattle.std.specs.List.{AllByRecursion, list_any, find, range_with_len}
use Rattle.std.proofs.lemmas.Bool.{cases_Bool, eqb-true}
use Rattle.fault_counts.specs.Counts.{Rose}
use Rattle.unit_set.specs.Slot.{Slot, slot_text}
use Rattle.publish.specs.declared.area.Standing.{Standing}
use Rattle.publish.specs.declared.area.Verdict.{Verdict}
use Rattle.shelf_model.specs.declared.shelf.Area.{Area}
use Rattle.publish.specs.declared.outcome.Loaded.{Loaded}
use Rattle.publish.specs.declared.outcome.Loaded.TheVariants as loads
use Rattle.publish.specs.declared.outcome.Pub.{Pub}
use Rattle.publish.specs.declared.outcome.PubFault.{PubFault}
use Rattle.publish.specs.declared.outcome.PubFault.TheVariants as faults
use Rattle.publish.specs.Load.{loaded_as}
use Rattle.registry.specs.Opening.{Opening, slot_at}
use Rattle.publisher.specs.Loads.{name_at}
use Rattle.publisher.specs.Serving.{AreCaused, IsCaused}
use Rattle.journal_text.specs.Shut.{broke, first_fault, is_shelf, is_unread, shelf_failed}
use Rattle.whole_run.specs.Job.{Job, slots_in_job}
use Rattle.whole_run.specs.Shelf.{IsOpened, Opened, Seen}
use Rattle.whole_run.specs.Whole.{IsWhole, Whole, Opens, opened_at}

-- what is found passes
found : (p : ℕ → Bool) (xs : List ℕ) (k : ℕ) → find p xs ≡ Some k → p k ≡ true
found p [] k is = cc
found p (x ∷ xs) k is =
    ⊎_elim (λ yes. let e : Some x ≡ Some k = sym (ap (λ b. if b then Some x else find p xs) yes) ∙ is in subst (λ y. p y ≡ true) (ap (λ o. unwrap_or o k) e) yes)
    (λ no. found p xs k (sym (ap (λ b. if b then Some x else find p xs) no) ∙ is)) (cases_Bool (p x))

pub first_failed : (loaded : List Loaded) (served : List Pub) (slot : ℕ) → first_fault loaded served ≡ Some slot → shelf_failed loaded served slot ≡ true
first_failed loaded served slot is = found (shelf_failed loaded served) (range_with_len 0 (length loaded)) slot is

-- ---- at its load

read_is : (held : Option Area) (seq : ℕ) (a b : Verdict) → loaded_as held seq a b ≡ loads.Unread → ⊥
read_is None seq a b is = cc
read_is (Some area) seq a b is = cc

load_rose : (s : Seen) (slot : Slot) (x : Opened) → x.loaded ≡ loads.Unread → IsOpened s slot x → Rose (s.faults_before (slot_text slot)) (s.faults_after (slot_text slot))
load_rose s slot x is (inl r) = absurd (read_is r.answer.standing.held r.answer.standing.seq r.answer.a r.answer.b (sym (ap (λ (y : Opened). y.loaded) r.is) ∙ is))
load_rose s slot x is (inr u) = u.rose

unread_at : (loaded : List Loaded) (k : ℕ) → is_unread (slice_get loaded k) ≡ true → (k < length loaded) × (slice_index_or loaded k loads.Unread ≡ loads.Unread)
unread_at [] zero is = cc
unread_at [] (suc k) is = cc
unread_at (loads.Unread ∷ ls) zero is = (omega arith, refl)
unread_at (loads.Held area seq ∷ ls) zero is = cc
unread_at (loads.Nothing a b ∷ ls) zero is = cc
unread_at (l ∷ ls) (suc k) is = let h = unread_at ls k is in (let n = h.0 in omega (arith, n), h.1)

-- ---- at a publication

shelf_is : (fault : Option PubFault) → is_shelf fault ≡ true → fault ≡ Some faults.Shelf
shelf_is None is = cc
shelf_is (Some faults.Shelf) is = refl
shelf_is (Some faults.WornOut) is = cc

both : (a b : Bool) → (a && b) ≡ true → (a ≡ true) × (b ≡ true)
both true true is = (refl, refl)
both true false is = cc
both false b is = cc

either : (a b : Bool) → (a || b) ≡ true → (a ≡ true) ⊎ (b ≡ true)
either true b is = inl refl
either false b is = inr is

served_rose : (o : Opening) (before after : List ℕ → ℕ) (served : List Pub) (k : ℕ) → AreCaused o before after served → list_any (broke k) served ≡ true →
    Rose (before (slot_text (slot_at o k))) (after (slot_text (slot_at o k)))
served_rose o before after [] k are is = cc
served_rose o before after (p ∷ ps) k are is =
    ⊎_elim (λ here. let h = both (p.slot == k) (is_shelf p.fault) here in
    subst (λ n. Rose (before (slot_text (slot_at o n))) (after (slot_text (slot_at o n)))) (eqb-true p.slot k h.0) (are.0 (shelf_is p.fault h.1)))
    (λ there. served_rose o before after ps k are.1 there) (either (broke k p) (list_any (broke k) ps) is)

-- ---- either way

pub failed_is_caused : (j : Job) (s : Seen) (w : Whole) (k : ℕ) → IsWhole j s w → shelf_failed w.loads w.served k ≡ true →
    Rose (s.faults_before (slot_text (name_at (slots_in_job j) k))) (s.faults_after (slot_text (name_at (slots_in_job j) k)))
failed_is_caused j s w k is failed =
    subst (λ (slots : List Slot). Rose (s.faults_before (slot_text (name_at slots k))) (s.faults_after (slot_text (name_at slots k)))) is.opens.slots
    (⊎_elim (λ unread. let h = unread_at w.loads k unread in
    load_rose s (slot_at is.opening k) (opened_at is.opening w.loads k) h.1 (is.opens.opened k (let n = is.opens.each in omega (arith, h.0, n))))
    (λ served. served_rose is.opening s.faults_before s.faults_after w.served k is.calls.caused served)
    (either (is_unread (slice_get w.loads k)) (list_any (broke k) w.served) failed))
