-- A publication, by what a crash leaves held.
use Rattle.std.proofs.Common.{◌≡◌, ◌≢◌, ◌⊎◌, inl, inr, ⊎_elim, ℕ, ◌<◌, ◌≤◌, List, Some, Option, Result, Ok, Err, OnOk, ap, sym, subst, ◌∙◌, arith}
use Rattle.std.proofs.lemmas.Bool.{cases_lt}
use Rattle.shelf_model.specs.declared.shelf.Area.{Area}
use Rattle.shelf_model.specs.declared.shelf.Area.TheVariants.{A, B}
use Rattle.shelf_model.specs.Shelf.{Images, Leaves, Passes}
use Rattle.publish.specs.declared.gates.PubErr.{PubErr}
use Rattle.publish.specs.declared.gates.PubErr.TheVariants.{ShelfFault}
use Rattle.publish.specs.Gates.{IsEarly, Stages, published}
use Rattle.unit_set.specs.Slot.{Slot, slot_text}
use Rattle.publish.specs.Area.{Edition, seq_of, other}
use Rattle.publish.specs.Verdict.{fine}
use Rattle.publish.specs.Crash.{EachHolds, NeverFalls, Publishes}
use Rattle.publish.proofs.Areas.{fine-shut, better_at, better-none, better-new}

-- what is held, the bytes of this area first
abbrev pub held_at : Area → Slot → List ℕ → List ℕ → Option Edition
held_at area slot x y = better_at area (fine slot x) (fine slot y)

pub each_at : (area : Area) (images : Images) (from to : ℕ) (slot : Slot) (P : Option Edition → Type 0)
    → ((m : ℕ) (x y : List ℕ) → from ≤ m → m ≤ to → images m (slot_text slot) area x → images m (slot_text slot) (other area) y → P (held_at area slot x y)) → EachHolds images from to slot P
each_at A images from to slot P h = λ m a b low high ia ib. h m a b low high ia ib
each_at B images from to slot P h = λ m a b low high ia ib. h m b a low high ib ia

pub never_at : (area : Area) (images : Images) (from to : ℕ) (slot : Slot)
    → ((m k : ℕ) (x y : List ℕ) → from ≤ m → m ≤ k → k ≤ to → images k (slot_text slot) area x → images k (slot_text slot) (other area) y
    → (c : List ℕ) × (d : List ℕ) × images m (slot_text slot) area c × images m (slot_text slot) (other area) d × (seq_of (held_at area slot c d) ≤ seq_of (held_at area slot x y)))
    → NeverFalls images from to slot
never_at A images from to slot h = λ m k a b low mid high ia ib. h m k a b low mid high ia ib
never_at B images from to slot h = λ m k a b low mid high ia ib. let (c, d, ic, id, le) = h m k b a low mid high ib ia in (d, c, id, ic, le)

-- the other area leaves what it left
pub still_other : (t0 t1 : ℕ) (i0 i1 : Images) (slot : Slot) (area : Area) (y : List ℕ) → Passes t0 t1 i0 i1 (slot_text slot) area → other area ≢ area → Leaves i0 t0 (slot_text slot) (other area) y
    → (m : ℕ) (d : List ℕ) → t0 ≤ m → m ≤ t1 → i1 m (slot_text slot) (other area) d → d ≡ y
still_other t0 t1 i0 i1 slot area y passes apart leaves m d low high h =
    leaves d ((passes.keeps t0 (slot_text slot) (other area) d (omega arith)).1 (passes.others t0 m (slot_text slot) (other area) d (omega arith) low high (inr apart) h))

pub apart : (area : Area) → other area ≢ area
apart A = λ e. grind (arith, e)
apart B = λ e. grind (arith, e)

early_holds : (area : Area) (slot : Slot) (x y c : List ℕ) → held_at area slot x y ≡ fine slot y → IsEarly x c → held_at area slot c y ≡ held_at area slot x y
early_holds area slot x y c kept (inl same) = ap (λ z. held_at area slot z y) same
early_holds area slot x y c kept (inr shut) = ap (λ f. better_at area f (fine slot y)) (fine-shut slot c shut) ∙ (better-none area (fine slot y) ∙ sym kept)

pub whole_holds : (area : Area) (slot : Slot) (x y body c : List ℕ) (n : Edition) → fine slot (published body x) ≡ Some n → seq_of (fine slot y) < n.seq → c ≡ published body x → held_at area slot c y ≡ Some n
whole_holds area slot x y body c n reads greater is =
    ap (λ z. held_at area slot z y) is ∙ (ap (λ f. better_at area f (fine slot y)) reads ∙ better-new area n (fine slot y) greater)

pub on_ok_map : {T E : Type 0} (r : Result T E) (P Q : Type 0) → (P → Q) → OnOk r P → OnOk r Q
on_ok_map (Ok u) P Q f p = f p
on_ok_map (Err e) P Q f p = tt

pub publishes_at : {T : Type 0} (result : Result T PubErr) (r : Result (Unit {0}) PubErr) (t0 t1 : ℕ) (i0 i1 : Images) (slot : Slot) (area : Area) (x y body : List ℕ) (n : Edition)
    → Passes t0 t1 i0 i1 (slot_text slot) area → Stages i1 t0 t1 (slot_text slot) area x body r → Leaves i0 t0 (slot_text slot) (other area) y
    → held_at area slot x y ≡ fine slot y → fine slot (published body x) ≡ Some n → seq_of (fine slot y) < n.seq
    → OnOk result (Leaves i1 t1 (slot_text slot) area (published body x)) → ((k : ℕ) → result ≡ Err (ShelfFault k) → r ≡ Err (ShelfFault k))
    → Publishes i1 t0 t1 slot (held_at area slot x y) (Some n) result
publishes_at result r t0 t1 i0 i1 slot area x y body n passes stages leaves kept reads greater ends same =
    let still = still_other t0 t1 i0 i1 slot area y passes (apart area) leaves in
    let old = held_at area slot x y in
    let before : (m : ℕ) (c d : List ℕ) → t0 ≤ m → m ≤ stages.opened → i1 m (slot_text slot) area c → i1 m (slot_text slot) (other area) d → held_at area slot c d ≡ old =
    λ m c d low high ic id.
    ap (held_at area slot c) (still m d low (omega (arith, high, stages.until)) id) ∙ early_holds area slot x y c kept (stages.early m c low high ic) in
    let since : (m : ℕ) (c d : List ℕ) → t0 ≤ m → m ≤ t1 → i1 m (slot_text slot) area c → i1 m (slot_text slot) (other area) d → (held_at area slot c d ≡ old) ⊎ (held_at area slot c d ≡ Some n) =
    λ m c d low high ic id. ⊎_elim
    (λ early. inl (ap (held_at area slot c) (still m d low high id) ∙ early_holds area slot x y c kept early))
    (λ whole. inr (ap (held_at area slot c) (still m d low high id) ∙ whole_holds area slot x y body c n reads greater whole))
    (stages.whole m c low high ic) in
    record {
      opened = stages.opened;
      after = stages.after;
      until = stages.until;
      before = each_at area i1 t0 stages.opened slot (λ q. q ≡ old) before;
      since = each_at area i1 t0 t1 slot (λ q. (q ≡ old) ⊎ (q ≡ Some n)) since;
      never_falls = never_at area i1 t0 t1 slot (λ m k c d low mid high ic id.
          let at_m = passes.others m k (slot_text slot) (other area) d low mid high (inr (apart area)) id in
          ⊎_elim
          (λ late. (c, d, stages.steady m k c late mid high ic, at_m, omega arith))
          (λ early. let (e, ie) = passes.some m k c low mid high ic in (
            e,
            d,
            ie,
            at_m,
            ⊎_elim
                (λ same_old. omega (arith, ap seq_of (before m e d low early ie at_m), ap seq_of same_old))
                (λ now_new. omega (arith, ap seq_of (before m e d low early ie at_m), ap seq_of now_new, ap seq_of kept, greater))
                (since k c d (omega (arith, low, mid)) high ic id),
          ))
          (cases_lt stages.opened m));
      done = on_ok_map result _ _ (λ whole. each_at area i1 t1 t1 slot (λ q. q ≡ Some n) (λ m c d low high ic id.
          ap (held_at area slot c) (still m d (omega (arith, passes.later, low)) high id)
          ∙ whole_holds area slot x y body c n reads greater (whole c (subst (λ k. i1 k (slot_text slot) area c) (omega (arith, low, high)) ic)))) ends;
      unopened = λ k is few. stages.unopened k (same k is) few;
    }
