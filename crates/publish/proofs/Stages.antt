-- The three stages in a row.
use Rattle.std.proofs.Common.{◌≡◌, ◌≢◌, ◌⊎◌, inl, inr, ⊎_elim, ℕ, List, [], ◌∷◌, length, Some, Option, Result, Ok, Err, OnOk, IsErr, IsErrAnd, refl, ap, sym, subst, ◌∙◌, arith}
use Rattle.shelf_model.specs.declared.shelf.Area.{Area}
use Rattle.shelf_model.specs.Shelf.{Told, Images, EachMoment, Torn, Elapses, WhereTold, Leaves, Stores, written}
use Rattle.shelf_model.specs.declared.shelf.ShelfErr.{ShelfErr}
use Rattle.shelf_model.specs.declared.shelf.ShelfErr.TheVariants as shelf_errors
use Rattle.shelf_model.proofs.Writes.{written_is_torn, stores_err}
use Rattle.shelf_model.proofs.Moments.{passes_by, no_pass, then_passes, each_more}
use Rattle.publish.specs.declared.area.Door.{Door}
use Rattle.publish.specs.declared.area.Door.TheVariants.{Absent, Closed, Opened}
use Rattle.publish.specs.declared.gates.PubErr.{PubErr}
use Rattle.publish.specs.declared.gates.PubErr.TheVariants.{ShelfFault, WornOut, Memory}
use Rattle.publish.specs.Area.{door_of}
use Rattle.publish.specs.Gates.{IsEarly, IsLeft, closed_at, filled, published, left_by, first_stage, Longer, Ends, Stage, Closes, Runs}
use Rattle.publish.specs.Causes.{HasPubCause}
use Rattle.publish.proofs.Bytes.{early_in_close, shut_in_fill, whole_in_open, opened_is_published}

-- at the start the area is as it was found
at_start : (i : Images) (t : ℕ) (name : List ℕ) (area : Area) (found : List ℕ) → Leaves i t name area found → EachMoment i t t name area (IsEarly found)
at_start i t name area found leaves m c low high h = inl (leaves c (subst (λ k. i k name area c) (omega arith) h))

stores_longer : {E : Type 0} (r : Result (Unit {0}) E) (told0 told1 : Told) (t0 t1 : ℕ) (i0 i1 : Images) (name : List ℕ) (area : Area) (at : ℕ) (bytes : List ℕ)
    → Stores told0 told1 t0 t1 i0 i1 name area at bytes r → Longer told0 told1 name area
stores_longer (Ok u) told0 told1 t0 t1 i0 i1 name area at bytes s = λ found h. (written at bytes found, s.ok found h, (written_is_torn at bytes found).no_shorter)
stores_longer (Err e) told0 told1 t0 t1 i0 i1 name area at bytes s = λ found h. let (after, is, torn) = s.broken found h in (after, is, torn.no_shorter)

then_longer : (told0 told1 told2 : Told) (name : List ℕ) (area : Area) → Longer told0 told1 name area → Longer told1 told2 name area → Longer told0 told2 name area
then_longer told0 told1 told2 name area first second found h =
    let (mid, is_mid, le) = first found h in let (after, is, more) = second mid is_mid in (after, is, omega (arith, le, more))

pub closes_not : (door : Door) → door ≡ Closed → (told : Told) (t : ℕ) (i : Images) (name : List ℕ) (area : Area) (u : Unit {0}) → Closes told told t t i i name area door (Ok u)
closes_not door is told t i name area u = record {
  passes = no_pass t i name area;
  silent = λ h. h;
  longer = λ found h. (found, h, omega arith);
  others = λ n b o. refl;
  ok = λ found h. subst (λ d. told name area ≡ Some (closed_at d found)) (sym is) h;
  broken = tt;
  memory = λ e. absurd cc;
  settled = λ found h leaves. subst (λ d. Leaves i t name area (closed_at d found)) (sym is) leaves;
  early = λ found h door leaves. at_start i t name area found leaves;
}

settles : {E : Type 0} (r : Result (Unit {0}) E) (told0 told1 : Told) (t0 t1 : ℕ) (i0 i1 : Images) (name : List ℕ) (area : Area) (at : ℕ) (bytes : List ℕ)
    → Stores told0 told1 t0 t1 i0 i1 name area at bytes r → OnOk r (WhereTold (told0 name area) (λ found. Leaves i0 t0 name area found → Leaves i1 t1 name area (written at bytes found)))
settles (Ok u) told0 told1 t0 t1 i0 i1 name area at bytes s = λ found h leaves. s.settled (written at bytes found) (s.ok found h)
settles (Err e) told0 told1 t0 t1 i0 i1 name area at bytes s = tt

early_close : (r : Result (Unit {0}) PubErr) (told0 told1 : Told) (t0 t1 : ℕ) (i0 i1 : Images) (name : List ℕ) (area : Area) (door : Door) → door ≢ Closed
    → Stores told0 told1 t0 t1 i0 i1 name area 0 (0 ∷ []) r
    → WhereTold (told0 name area) (λ found. door ≡ door_of found → Leaves i0 t0 name area found → EachMoment i1 t0 t1 name area (IsEarly found))
early_close r told0 told1 t0 t1 i0 i1 name area door not_closed s found h is leaves =
    each_more t0 t0 t1 i0 i1 name area (Torn 0 1) (IsEarly found) (at_start i0 t0 name area found leaves) s.time
    (λ d c old torn. early_in_close found c (λ e. not_closed (is ∙ e)) (subst (λ x. Torn 0 1 x c) (leaves d old) torn))

differs_absent : Absent ≢ Closed
differs_absent e = grind (arith, e)

differs_opened : Opened ≢ Closed
differs_opened e = grind (arith, e)

pub closes_absent : (door : Door) → door ≡ Absent → (r : Result (Unit {0}) PubErr) (told0 told1 : Told) (t0 t1 : ℕ) (i0 i1 : Images) (name : List ℕ) (area : Area) → Stage told0 told1 t0 t1 i0 i1 name area 0 (0 ∷ []) r → Closes told0 told1 t0 t1 i0 i1 name area door r
closes_absent door is r told0 told1 t0 t1 i0 i1 name area s = record {
  passes = passes_by t0 t1 i0 i1 name area (Torn 0 1) s.stores.time;
  silent = s.stores.silent;
  longer = stores_longer r told0 told1 t0 t1 i0 i1 name area 0 (0 ∷ []) s.stores;
  others = s.stores.others;
  ok = subst (λ d. OnOk r (WhereTold (told0 name area) (λ found. told1 name area ≡ Some (closed_at d found)))) (sym is) s.stores.ok;
  broken = s.stores.broken;
  memory = subst (λ d. r ≡ Err Memory → WhereTold (told0 name area) (λ found. (told1 name area ≡ Some found) ⊎ (told1 name area ≡ Some (closed_at d found)))) (sym is) s.memory;
  settled = subst (λ d. OnOk r (WhereTold (told0 name area) (λ found. Leaves i0 t0 name area found → Leaves i1 t1 name area (closed_at d found)))) (sym is) (settles r told0 told1 t0 t1 i0 i1 name area 0 (0 ∷ []) s.stores);
  early = early_close r told0 told1 t0 t1 i0 i1 name area door (λ e. differs_absent (sym is ∙ e)) s.stores;
}

pub closes_opened : (door : Door) → door ≡ Opened → (r : Result (Unit {0}) PubErr) (told0 told1 : Told) (t0 t1 : ℕ) (i0 i1 : Images) (name : List ℕ) (area : Area) → Stage told0 told1 t0 t1 i0 i1 name area 0 (0 ∷ []) r → Closes told0 told1 t0 t1 i0 i1 name area door r
closes_opened door is r told0 told1 t0 t1 i0 i1 name area s = record {
  passes = passes_by t0 t1 i0 i1 name area (Torn 0 1) s.stores.time;
  silent = s.stores.silent;
  longer = stores_longer r told0 told1 t0 t1 i0 i1 name area 0 (0 ∷ []) s.stores;
  others = s.stores.others;
  ok = subst (λ d. OnOk r (WhereTold (told0 name area) (λ found. told1 name area ≡ Some (closed_at d found)))) (sym is) s.stores.ok;
  broken = s.stores.broken;
  memory = subst (λ d. r ≡ Err Memory → WhereTold (told0 name area) (λ found. (told1 name area ≡ Some found) ⊎ (told1 name area ≡ Some (closed_at d found)))) (sym is) s.memory;
  settled = subst (λ d. OnOk r (WhereTold (told0 name area) (λ found. Leaves i0 t0 name area found → Leaves i1 t1 name area (closed_at d found)))) (sym is) (settles r told0 told1 t0 t1 i0 i1 name area 0 (0 ∷ []) s.stores);
  early = early_close r told0 told1 t0 t1 i0 i1 name area door (λ e. differs_opened (sym is ∙ e)) s.stores;
}

abbrev failed : PubErr → Result (Unit {0}) PubErr
failed e = Err e

-- a stage broke behind so many
ends_at : (e : PubErr) (n : ℕ) (faults0 faults1 : List ℕ → ℕ) (name : List ℕ) (now : Option (List ℕ)) (door : Door) (body found : List ℕ)
    → HasPubCause faults0 faults1 name (failed e) n n → (failed e ≡ Err WornOut → ⊥)
    → (after : List ℕ) × (now ≡ Some after) × IsLeft n door body found after → (failed e ≡ Err Memory → (writes : ℕ) × (now ≡ Some (left_by writes door body found))) → Ends (failed e) now door body found
ends_at (ShelfFault k) n faults0 faults1 name now door body found cause worn (after, is, left) whole =
    let same : n ≡ k = omega (arith, (cause.place k refl).0, (cause.place k refl).1) in (after, is, subst (λ x. IsLeft x door body found after) same left)
ends_at Memory n faults0 faults1 name now door body found cause worn left whole = whole refl
ends_at WornOut n faults0 faults1 name now door body found cause worn left whole = absurd (worn refl)

-- the first broke, where it calls the shelf
ends_closing : (e : PubErr) (faults0 faults1 : List ℕ → ℕ) (name : List ℕ) (now : Option (List ℕ)) (door : Door) (body found : List ℕ)
    → HasPubCause faults0 faults1 name (failed e) (first_stage door) 0 → (failed e ≡ Err WornOut → ⊥)
    → (after : List ℕ) × (now ≡ Some after) × Torn 0 1 found after → (failed e ≡ Err Memory → (writes : ℕ) × (now ≡ Some (left_by writes door body found))) → Ends (failed e) now door body found
ends_closing (ShelfFault k) faults0 faults1 name now door body found cause worn (after, is, torn) whole =
    let place = cause.place k refl in
    let same : 0 ≡ k = omega (arith, place.1) in
    let calls : first_stage door ≡ 0 = omega (arith, place.0, place.1) in
    (after, is, subst (λ x. IsLeft x door body found after) same (calls, torn))
ends_closing Memory faults0 faults1 name now door body found cause worn left whole = whole refl
ends_closing WornOut faults0 faults1 name now door body found cause worn left whole = absurd (worn refl)

-- one of two
either_by : (now : Option (List ℕ)) (door : Door) (body found x y : List ℕ) (n m : ℕ) → x ≡ left_by n door body found → y ≡ left_by m door body found → (now ≡ Some x) ⊎ (now ≡ Some y) → (writes : ℕ) × (now ≡ Some (left_by writes door body found))
either_by now door body found x y n m ex ey (inl h) = (n, h ∙ ap Some ex)
either_by now door body found x y n m ex ey (inr h) = (m, h ∙ ap Some ey)

-- CloseGate broke
pub runs_closing : (e : PubErr) (told0 told1 : Told) (t0 t1 : ℕ) (i0 i1 : Images) (faults0 faults1 : List ℕ → ℕ) (name : List ℕ) (area : Area) (door : Door) (body : List ℕ)
    → HasPubCause faults0 faults1 name (failed e) (first_stage door) 0 → (failed e ≡ Err WornOut → ⊥)
    → Closes told0 told1 t0 t1 i0 i1 name area door (Err e) → Runs told0 told1 t0 t1 i0 i1 name area door body (Err e)
runs_closing e told0 told1 t0 t1 i0 i1 faults0 faults1 name area door body cause worn s = record {
  passes = s.passes;
  silent = s.silent;
  longer = s.longer;
  others = s.others;
  told = λ found h. ends_closing e faults0 faults1 name (told1 name area) door body found cause worn (s.broken found h) (λ m. either_by (told1 name area) door body found found (closed_at door found) 0 1 refl refl (s.memory m found h));
  settled = tt;
  crash = λ found h is leaves. record {
    opened = t1;
    after = s.passes.later;
    until = omega arith;
    early = s.early found h is leaves;
    whole = λ m c low high im. inl (s.early found h is leaves m c low high im);
    steady = λ m k c low mid high im. absurd (omega (arith, low, mid, high));
    unopened = λ n r few. omega arith;
  };
}

-- up to the end of Fill the area is early
early_fill : (t0 t1 t2 : ℕ) (i0 i1 i2 : Images) (name : List ℕ) (area : Area) (door : Door) (body found : List ℕ) → door ≡ door_of found
    → EachMoment i1 t0 t1 name area (IsEarly found) → Leaves i1 t1 name area (closed_at door found) → Elapses t1 t2 i1 i2 name area (Torn 1 (length body)) → EachMoment i2 t0 t2 name area (IsEarly found)
early_fill t0 t1 t2 i0 i1 i2 name area door body found is early leaves time =
    each_more t0 t1 t2 i1 i2 name area (Torn 1 (length body)) (IsEarly found) early time
    (λ d c old torn. inr (shut_in_fill found body c (length body) (subst (λ x. Torn 1 (length body) x c) (leaves d old ∙ ap (λ x. closed_at x found) is) torn)))

-- Fill broke
pub runs_filling : (e : PubErr) (told0 told1 told2 : Told) (t0 t1 t2 : ℕ) (i0 i1 i2 : Images) (faults1 faults2 : List ℕ → ℕ) (name : List ℕ) (area : Area) (door : Door) (body : List ℕ)
    → HasPubCause faults1 faults2 name (failed e) 1 1 → (failed e ≡ Err WornOut → ⊥)
    → Closes told0 told1 t0 t1 i0 i1 name area door (Ok tt) → Stage told1 told2 t1 t2 i1 i2 name area 1 body (failed e) → Runs told0 told2 t0 t2 i0 i2 name area door body (Err e)
runs_filling e told0 told1 told2 t0 t1 t2 i0 i1 i2 faults1 faults2 name area door body cause worn s f = record {
  passes = then_passes t0 t1 t2 i0 i1 i2 name area s.passes (passes_by t1 t2 i1 i2 name area (Torn 1 (length body)) f.stores.time);
  silent = λ h. f.stores.silent (s.silent h);
  longer = then_longer told0 told1 told2 name area s.longer (stores_longer (failed e) told1 told2 t1 t2 i1 i2 name area 1 body f.stores);
  others = λ n b o. f.stores.others n b o ∙ s.others n b o;
  told = λ found h. ends_at e 1 faults1 faults2 name (told2 name area) door body found cause worn (f.stores.broken (closed_at door found) (s.ok found h))
      (λ m. either_by (told2 name area) door body found (closed_at door found) (filled door body found) 1 2 refl refl (f.memory m (closed_at door found) (s.ok found h)));
  settled = tt;
  crash = λ found h is leaves.
      let early = early_fill t0 t1 t2 i0 i1 i2 name area door body found is (s.early found h is leaves) (s.settled found h leaves) f.stores.time in
      record {
        opened = t2;
        after = omega (arith, s.passes.later, f.stores.time.later);
        until = omega arith;
        early = early;
        whole = λ m c low high im. inl (early m c low high im);
        steady = λ m k c low mid high im. absurd (omega (arith, low, mid, high));
        unopened = λ n r few. omega arith;
      };
}

ends_opening : (r : Result (Unit {0}) PubErr) (faults2 faults3 : List ℕ → ℕ) (told2 told3 : Told) (t2 t3 : ℕ) (i2 i3 : Images) (name : List ℕ) (area : Area) (door : Door) (body found : List ℕ)
    → HasPubCause faults2 faults3 name r 2 2 → (r ≡ Err WornOut → ⊥) → told2 name area ≡ Some (filled door body found)
    → Stage told2 told3 t2 t3 i2 i3 name area 0 (165 ∷ []) r → Ends r (told3 name area) door body found
ends_opening (Ok u) faults2 faults3 told2 told3 t2 t3 i2 i3 name area door body found cause worn h o =
    o.stores.ok (filled door body found) h ∙ ap Some (opened_is_published door found body)
ends_opening (Err e) faults2 faults3 told2 told3 t2 t3 i2 i3 name area door body found cause worn h o =
    ends_at e 2 faults2 faults3 name (told3 name area) door body found cause worn (o.stores.broken (filled door body found) h)
    (λ m. either_by (told3 name area) door body found (filled door body found) (written 0 (165 ∷ []) (filled door body found)) 2 3 refl
    (opened_is_published door found body) (o.memory m (filled door body found) h))

-- OpenGate, however it ends
pub runs_opening : (r : Result (Unit {0}) PubErr) (told0 told1 told2 told3 : Told) (t0 t1 t2 t3 : ℕ) (i0 i1 i2 i3 : Images) (faults2 faults3 : List ℕ → ℕ) (name : List ℕ) (area : Area) (door : Door) (body : List ℕ)
    → HasPubCause faults2 faults3 name r 2 2 → (r ≡ Err WornOut → ⊥)
    → Closes told0 told1 t0 t1 i0 i1 name area door (Ok tt) → Stage told1 told2 t1 t2 i1 i2 name area 1 body (Ok tt) → Stage told2 told3 t2 t3 i2 i3 name area 0 (165 ∷ []) r
    → Runs told0 told3 t0 t3 i0 i3 name area door body r
runs_opening r told0 told1 told2 told3 t0 t1 t2 t3 i0 i1 i2 i3 faults2 faults3 name area door body cause worn s f o =
    let now_filled : (found : List ℕ) → told0 name area ≡ Some found → told2 name area ≡ Some (filled door body found) =
    λ found h. f.stores.ok (closed_at door found) (s.ok found h) in
    record {
      passes = then_passes t0 t2 t3 i0 i2 i3 name area
          (then_passes t0 t1 t2 i0 i1 i2 name area s.passes (passes_by t1 t2 i1 i2 name area (Torn 1 (length body)) f.stores.time))
          (passes_by t2 t3 i2 i3 name area (Torn 0 1) o.stores.time);
      silent = λ h. o.stores.silent (f.stores.silent (s.silent h));
      longer = then_longer told0 told2 told3 name area (then_longer told0 told1 told2 name area s.longer (stores_longer {E = PubErr} (Ok tt) told1 told2 t1 t2 i1 i2 name area 1 body f.stores))
          (stores_longer r told2 told3 t2 t3 i2 i3 name area 0 (165 ∷ []) o.stores);
      others = λ n b other. o.stores.others n b other ∙ (f.stores.others n b other ∙ s.others n b other);
      told = λ found h. ends_opening r faults2 faults3 told2 told3 t2 t3 i2 i3 name area door body found cause worn (now_filled found h) o;
      settled = o.stores.settled;
      crash = λ found h is leaves.
          let early = early_fill t0 t1 t2 i0 i1 i2 name area door body found is (s.early found h is leaves) (s.settled found h leaves) f.stores.time in
          let stands = f.stores.settled (filled door body found) (now_filled found h) in
          record {
            opened = t2;
            after = omega (arith, s.passes.later, f.stores.time.later);
            until = o.stores.time.later;
            early = λ m c low high im. early m c low high ((o.stores.time.keeps m name area c high).1 im);
            whole = each_more t0 t2 t3 i2 i3 name area (Torn 0 1) (λ c. IsEarly found c ⊎ (c ≡ published body found)) (λ m c low high im. inl (early m c low high im)) o.stores.time
                (λ d c old torn. ⊎_elim (λ shut. inl (inr shut)) (λ whole. inr whole)
                (whole_in_open found body c (subst (λ x. Torn 0 1 x c) (stands d old ∙ ap (λ x. filled x body found) is) torn)));
            steady = o.stores.time.steady;
            unopened = λ n is few. absurd (omega (arith, (cause.place n is).0, few));
          };
    }

-- an error that `?` hands on
pub came : (r : Result (Unit {0}) PubErr) (e : PubErr) → IsErr r × IsErrAnd r (λ x. x ≡ e) → r ≡ Err e
came (Ok u) e h = absurd h.1
came (Err x) e h = ap Err h.1

pub runs_closed : (r : Result (Unit {0}) PubErr) (e : PubErr) → r ≡ Err e → (told0 told1 : Told) (t0 t1 : ℕ) (i0 i1 : Images) (faults0 faults1 : List ℕ → ℕ) (name : List ℕ) (area : Area) (door : Door) (body : List ℕ)
    → HasPubCause faults0 faults1 name (failed e) (first_stage door) 0 → (failed e ≡ Err WornOut → ⊥)
    → Closes told0 told1 t0 t1 i0 i1 name area door (Err e) → Runs told0 told1 t0 t1 i0 i1 name area door body r
runs_closed r e is told0 told1 t0 t1 i0 i1 faults0 faults1 name area door body cause worn s =
    subst (λ x. Runs told0 told1 t0 t1 i0 i1 name area door body x) (sym is) (runs_closing e told0 told1 t0 t1 i0 i1 faults0 faults1 name area door body cause worn s)

pub runs_filled : (r : Result (Unit {0}) PubErr) (e : PubErr) → r ≡ Err e → (told0 told1 told2 : Told) (t0 t1 t2 : ℕ) (i0 i1 i2 : Images) (faults1 faults2 : List ℕ → ℕ) (name : List ℕ) (area : Area) (door : Door) (body : List ℕ)
    → HasPubCause faults1 faults2 name (failed e) 1 1 → (failed e ≡ Err WornOut → ⊥)
    → Closes told0 told1 t0 t1 i0 i1 name area door (Ok tt) → Stage told1 told2 t1 t2 i1 i2 name area 1 body (failed e) → Runs told0 told2 t0 t2 i0 i2 name area door body r
runs_filled r e is told0 told1 told2 t0 t1 t2 i0 i1 i2 faults1 faults2 name area door body cause worn s f =
    subst (λ x. Runs told0 told2 t0 t2 i0 i2 name area door body x) (sym is) (runs_filling e told0 told1 told2 t0 t1 t2 i0 i1 i2 faults1 faults2 name area door body cause worn s f)

-- a stage for which memory ran out
pub stage_memory : (told0 told1 : Told) (t0 t1 : ℕ) (i0 i1 : Images) (name : List ℕ) (area : Area) (at : ℕ) (bytes : List ℕ) (r : Result (Unit {0}) ShelfErr) → r ≡ Err shelf_errors.Memory
    → Stores told0 told1 t0 t1 i0 i1 name area at bytes r → (r ≡ Err shelf_errors.Memory → WhereTold (told0 name area) (λ found. (told1 name area ≡ Some found) ⊎ (told1 name area ≡ Some (written at bytes found))))
    → Stage told0 told1 t0 t1 i0 i1 name area at bytes (Err Memory)
stage_memory told0 told1 t0 t1 i0 i1 name area at bytes r is s whole =
    record { stores = stores_err told0 told1 t0 t1 i0 i1 name area at bytes r shelf_errors.Memory Memory is s; memory = λ e. whole is }
