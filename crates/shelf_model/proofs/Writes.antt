-- What a write makes is within what one that is cut short may leave.
use Rattle.std.proofs.Common.{◌≡◌, ⊎_elim, ℕ, ◌+◌, ◌-◌, ◌<◌, ◌≤◌, max, List, ◌++◌, length, take, drop, replicate, Some, None, Result, Ok, Err, OnOk, OnErr, slice_index, refl, subst, ◌∙◌, arith, get_or}
use Rattle.std.proofs.lemmas.List.{length-take, length-drop, length-append, length-replicate, get_or_append_left, get_or-append_right, get_or-take, get_or-drop}
use Rattle.shelf_model.specs.declared.shelf.Area.{Area}
use Rattle.shelf_model.specs.Shelf.{Told, Images, Elapses, Rests, Torn, WhereTold, TellsOthers, TellsSame, Leaves, Stores, written}
use Rattle.shelf_model.proofs.Moments.{torn_itself, then_still}

length-front : (at : ℕ) (old : List ℕ) → length (take at (old ++ replicate at 0)) ≡ at
length-front at old = omega (arith, length-take at (old ++ replicate at 0), length-append old (replicate at 0), length-replicate {A = ℕ} at 0)

pub length-written : (at : ℕ) (bytes old : List ℕ) → length (written at bytes old) ≡ max (length old) (at + length bytes)
unfolding written
length-written at bytes old =
    omega (arith, length-front at old, length-append (take at (old ++ replicate at 0)) bytes, length-append (take at (old ++ replicate at 0) ++ bytes) (drop (at + length bytes) old), length-drop (at + length bytes) old)

pub before_it : (at : ℕ) (bytes old : List ℕ) (i : ℕ) → i < length old → i < at → slice_index (written at bytes old) i ≡ slice_index old i
unfolding written
before_it at bytes old i within low =
    let front = take at (old ++ replicate at 0) in
    get_or_append_left (front ++ bytes) (drop (at + length bytes) old) 0 i (omega (arith, length-front at old, length-append front bytes, low))
    ∙ (get_or_append_left front bytes 0 i (omega (arith, length-front at old, low))
    ∙ (get_or-take at (old ++ replicate at 0) i 0 low ∙ get_or_append_left old (replicate at 0) 0 i within))

pub within_it : (at : ℕ) (bytes old : List ℕ) (i : ℕ) → at ≤ i → i < at + length bytes → slice_index (written at bytes old) i ≡ slice_index bytes (i - at)
unfolding written
within_it at bytes old i low high =
    let front = take at (old ++ replicate at 0) in
    get_or_append_left (front ++ bytes) (drop (at + length bytes) old) 0 i (omega (arith, length-front at old, length-append front bytes, high))
    ∙ get_or-append_right front bytes at i 0 (length-front at old) low

pub behind_it : (at : ℕ) (bytes old : List ℕ) (i : ℕ) → at + length bytes ≤ i → slice_index (written at bytes old) i ≡ slice_index old i
unfolding written
behind_it at bytes old i high =
    let front = take at (old ++ replicate at 0) in
    let size : length (front ++ bytes) ≡ at + length bytes = omega (arith, length-front at old, length-append front bytes) in
    get_or-append_right (front ++ bytes) (drop (at + length bytes) old) (at + length bytes) i 0 size high
    ∙ (get_or-drop (at + length bytes) old (i - (at + length bytes)) 0 ∙ subst (λ k. get_or old k 0 ≡ get_or old i 0) (omega (arith, high)) refl)

pub written_is_torn : (at : ℕ) (bytes old : List ℕ) → Torn at (length bytes) old (written at bytes old)
written_is_torn at bytes old = record {
  no_shorter = omega (arith, length-written at bytes old);
  no_longer = omega (arith, length-written at bytes old);
  same = λ i within o. ⊎_elim (λ low. before_it at bytes old i within low) (λ high. behind_it at bytes old i high) o;
}

pub on_ok : {T E : Type 0} (r : Result T E) (P : Type 0) → P → OnOk r P
on_ok (Ok x) P p = p
on_ok (Err e) P p = tt

pub on_err : {T E : Type 0} (r : Result T E) (P : Type 0) → P → OnErr r P
on_err (Ok x) P p = tt
on_err (Err e) P p = p

-- a write that was done, and then a sync
pub store_after : {E : Type 0} (told0 told1 told2 : Told) (t0 t1 t2 : ℕ) (i0 i1 i2 : Images) (name : List ℕ) (area : Area) (at : ℕ) (bytes : List ℕ) (result : Result (Unit {0}) E)
    → WhereTold (told0 name area) (λ before. told1 name area ≡ Some (written at bytes before))
    → (told0 name area ≡ None → told1 name area ≡ None) → TellsOthers told0 told1 name area → Elapses t0 t1 i0 i1 name area (Torn at (length bytes))
    → OnOk result (WhereTold (told2 name area) (Leaves i2 t2 name area)) → TellsSame told1 told2 → Rests t1 t2 i1 i2
    → Stores told0 told2 t0 t2 i0 i2 name area at bytes result
store_after told0 told1 told2 t0 t1 t2 i0 i1 i2 name area at bytes result done silent others write settled same sync = record {
  ok = on_ok result _ (λ before h. same name area ∙ done before h);
  broken = on_err result _ (λ before h. (written at bytes before, same name area ∙ done before h, written_is_torn at bytes before));
  silent = λ h. same name area ∙ silent h;
  others = λ n b o. same n b ∙ others n b o;
  settled = settled;
  time = then_still t0 t1 t2 i0 i1 i2 name area (Torn at (length bytes)) (torn_itself at (length bytes)) write sync;
}

-- the same with another error
pub stores_err : {E F : Type 0} (told0 told1 : Told) (t0 t1 : ℕ) (i0 i1 : Images) (name : List ℕ) (area : Area) (at : ℕ) (bytes : List ℕ) (r : Result (Unit {0}) E) (e : E) (f : F)
    → r ≡ Err e → Stores told0 told1 t0 t1 i0 i1 name area at bytes r → Stores {E = F} told0 told1 t0 t1 i0 i1 name area at bytes (Err f)
stores_err told0 told1 t0 t1 i0 i1 name area at bytes r e f is s = record {
  ok = tt;
  broken = subst (λ x. OnErr x (WhereTold (told0 name area) (λ before. (after : List ℕ) × (told1 name area ≡ Some after) × Torn at (length bytes) before after))) is s.broken;
  silent = s.silent;
  others = s.others;
  settled = tt;
  time = s.time;
}

pub stores_ok : {E F : Type 0} (told0 told1 : Told) (t0 t1 : ℕ) (i0 i1 : Images) (name : List ℕ) (area : Area) (at : ℕ) (bytes : List ℕ) (r : Result (Unit {0}) E) (u : Unit {0})
    → r ≡ Ok u → Stores told0 told1 t0 t1 i0 i1 name area at bytes r → Stores {E = F} told0 told1 t0 t1 i0 i1 name area at bytes (Ok u)
stores_ok told0 told1 t0 t1 i0 i1 name area at bytes r u is s = record {
  ok = subst (λ x. OnOk x (WhereTold (told0 name area) (λ before. told1 name area ≡ Some (written at bytes before)))) is s.ok;
  broken = tt;
  silent = s.silent;
  others = s.others;
  settled = subst (λ x. OnOk x (WhereTold (told1 name area) (Leaves i1 t1 name area))) is s.settled;
  time = s.time;
}
