-- The times of a record of calls, and of one with a call more.
use Rattle.std.proofs.Common.{◌≡◌, ⊎_elim, ℕ, ◌<◌, ◌≤◌, List, [], ◌∷◌, ◌++◌, length, take, Some, Result, Ok, Err, OnOk, OnErr, refl, ap, sym, ◌∙◌, subst, arith, length-append}
use Rattle.std.specs.Prelude.{◌↔◌}
use Rattle.std.proofs.lemmas.List.{take-append-le}
use Rattle.std.proofs.lemmas.Option.{same_Some}
use Rattle.std.proofs.Math.Nat.{eq-or-lt_of_le}
use Rattle.shelf_model.specs.declared.shelf.Area.{Area}
use Rattle.shelf_model.specs.declared.memory.Call.{Call}
use Rattle.shelf_model.specs.declared.memory.Action.{Action}
use Rattle.shelf_model.specs.declared.memory.Action.TheVariants.{Put, Write, Tried, Sync}
use Rattle.shelf_model.specs.Shelf.{Images, Step, IsOther, Elapses, Rests, Torn, WhereTold, Leaves, written}
use Rattle.shelf_model.specs.Calls.{content_after, content_of, left_after, left_of}
use Rattle.shelf_model.proofs.Moments.{torn_itself}
use Rattle.shelf_model.proofs.Actions.{call_of, content_of-here, content_of-apart, content_of-kept, left_of-here, left_of-apart, sync_adds_none}

-- the images at each moment
abbrev pub images_of : List Call → Images
images_of calls m n b = left_of (take m calls) n b

-- where nothing is added to the record
stays : (calls : List Call) (name : List ℕ) (area : Area) (step : Step) → Elapses (length calls) (length calls) (images_of calls) (images_of calls) name area step
stays calls name area step = record {
  later = omega arith;
  keeps = λ m n b c le. ((λ h. h), (λ h. h));
  others = λ m k n b c low mid high o h. subst (λ x. images_of calls x n b c) (omega (arith, low, mid, high)) h;
  this = λ m c low high h. absurd (omega (arith, low, high));
  steady = λ m k c low mid high h. absurd (omega (arith, low, mid, high));
}

rests_here : (t : ℕ) (i : Images) → Rests t t i i
rests_here t i = record {
  later = omega arith;
  keeps = λ m n b c le. ((λ h. h), (λ h. h));
  fewer = λ m k n b c low mid high h. subst (λ x. i x n b c) (omega (arith, low, mid, high)) h;
}

whole : (calls : List Call) (x : Call) (m : ℕ) → length calls < m → m ≤ length (calls ++ x ∷ []) → m ≡ length (calls ++ x ∷ [])
whole calls x m low high = omega (arith, length-append calls (x ∷ []), low, high)

pub take_whole : (xs : List Call) → take (length xs) xs ≡ xs
take_whole [] = refl
take_whole (x ∷ xs) = ap (λ ys. x ∷ ys) (take_whole xs)

-- an image of the longer record, after its last call
by_last : (calls : List Call) (x : Call) (n : List ℕ) (b : Area) (m : ℕ) (c : List ℕ) → length calls < m → m ≤ length (calls ++ x ∷ [])
    → images_of (calls ++ x ∷ []) m n b c → left_of (calls ++ x ∷ []) n b c
by_last calls x n b m c low high h =
    let all = calls ++ x ∷ [] in
    subst (λ (ys : List Call). left_of ys n b c) (ap (λ k. take k all) (whole calls x m low high) ∙ take_whole all) h

by_first : (calls : List Call) (n : List ℕ) (b : Area) (c : List ℕ) → left_of calls n b c → images_of calls (length calls) n b c
by_first calls n b c h = subst (λ (ys : List Call). left_of ys n b c) (sym (take_whole calls)) h

keeps_on : (calls : List Call) (x : Call) (m : ℕ) (n : List ℕ) (b : Area) (c : List ℕ) → m ≤ length calls → images_of calls m n b c ↔ images_of (calls ++ x ∷ []) m n b c
keeps_on calls x m n b c le = let same = take-append-le m calls (x ∷ []) le in
    ((λ h. subst (λ (ys : List Call). left_of ys n b c) (sym same) h), (λ h. subst (λ (ys : List Call). left_of ys n b c) same h))

-- what the last call adds nothing to is there before
stood : (calls : List Call) (x : Call) (n : List ℕ) (b : Area) (c : List ℕ) (m k : ℕ) → (left_of (calls ++ x ∷ []) n b c → left_of calls n b c)
    → length calls ≤ m → m ≤ k → k ≤ length (calls ++ x ∷ []) → images_of (calls ++ x ∷ []) k n b c → images_of (calls ++ x ∷ []) m n b c
stood calls x n b c m k drops low mid high h =
    ⊎_elim
    (λ same. subst (λ y. images_of (calls ++ x ∷ []) y n b c) (sym same) h)
    (λ later.
    let m_is : length calls ≡ m = omega (arith, low, later, high, length-append calls (x ∷ [])) in
    (keeps_on calls x m n b c (omega (arith, m_is))).0
    (subst (λ y. images_of calls y n b c) m_is (by_first calls n b c (drops (by_last calls x n b k c (omega (arith, low, later)) high h)))))
    (eq-or-lt_of_le mid)

-- one call more, of a step that the area makes
goes_on : (calls : List Call) (name : List ℕ) (area : Area) (action : Action) (step : Step)
    → ((c : List ℕ) → left_after action (content_of calls name area) (left_of calls name area) c → (d : List ℕ) × left_of calls name area d × step d c)
    → Elapses (length calls) (length (calls ++ call_of name area action ∷ [])) (images_of calls) (images_of (calls ++ call_of name area action ∷ [])) name area step
goes_on calls name area action step here =
    let x = call_of name area action in
    record {
      later = omega (arith, length-append calls (x ∷ []));
      keeps = keeps_on calls x;
      others = λ m k n b c low mid high o h. stood calls x n b c m k (left_of-apart calls name area action n b c o) low mid high h;
      this = λ m c low high h. let (d, was, made) = here c (left_of-here calls name area action c (by_last calls x name area m c low high h)) in (d, by_first calls name area d was, made);
      steady = λ m k c low mid high h. subst (λ y. images_of (calls ++ x ∷ []) y name area c) (omega (arith, low, mid, high, length-append calls (x ∷ []))) h;
    }

-- one sync more
rests_on : (calls : List Call) (name : List ℕ) (area : Area)
    → Rests (length calls) (length (calls ++ call_of name area Sync ∷ [])) (images_of calls) (images_of (calls ++ call_of name area Sync ∷ []))
rests_on calls name area =
    let x = call_of name area Sync in
    record {
      later = omega (arith, length-append calls (x ∷ []));
      keeps = keeps_on calls x;
      fewer = λ m k n b c low mid high h. stood calls x n b c m k (sync_adds_none calls name area n b c) low mid high h;
    }

-- the record grew by an action, or stayed
abbrev pub Grew : {E : Type 0} → Result (Unit {0}) E → List Call → List Call → List ℕ → Area → Action → Type 0
Grew r calls after name area action = OnOk r (after ≡ calls ++ call_of name area action ∷ [])

time_of : {E : Type 0} (r : Result (Unit {0}) E) (calls after : List Call) (name : List ℕ) (area : Area) (action : Action) (step : Step)
    → Grew r calls after name area action → OnErr r (after ≡ calls)
    → ((c : List ℕ) → left_after action (content_of calls name area) (left_of calls name area) c → (d : List ℕ) × left_of calls name area d × step d c)
    → Elapses (length calls) (length after) (images_of calls) (images_of after) name area step
time_of (Ok u) calls after name area action step ok err here =
    subst (λ (ys : List Call). Elapses (length calls) (length ys) (images_of calls) (images_of ys) name area step) (sym ok) (goes_on calls name area action step here)
time_of (Err e) calls after name area action step ok err here =
    subst (λ (ys : List Call). Elapses (length calls) (length ys) (images_of calls) (images_of ys) name area step) (sym err) (stays calls name area step)

pub time_of_write : {E : Type 0} (r : Result (Unit {0}) E) (calls after : List Call) (name : List ℕ) (area : Area) (at : ℕ) (bytes : List ℕ)
    → Grew r calls after name area (Write at bytes) → OnErr r (after ≡ calls) → Elapses (length calls) (length after) (images_of calls) (images_of after) name area (Torn at (length bytes))
time_of_write r calls after name area at bytes ok err = time_of r calls after name area (Write at bytes) (Torn at (length bytes)) ok err (λ c h. h)

pub time_of_tried : {E : Type 0} (r : Result (Unit {0}) E) (calls after : List Call) (name : List ℕ) (area : Area) (at len : ℕ)
    → Grew r calls after name area (Tried at len) → OnErr r (after ≡ calls) → Elapses (length calls) (length after) (images_of calls) (images_of after) name area (Torn at len)
time_of_tried r calls after name area at len ok err = time_of r calls after name area (Tried at len) (Torn at len) ok err (λ c h. h)

pub time_of_sync : {E : Type 0} (r : Result (Unit {0}) E) (calls after : List Call) (name : List ℕ) (area : Area)
    → Grew r calls after name area Sync → OnErr r (after ≡ calls) → Rests (length calls) (length after) (images_of calls) (images_of after)
time_of_sync (Ok u) calls after name area ok err = subst (λ (ys : List Call). Rests (length calls) (length ys) (images_of calls) (images_of ys)) (sym ok) (rests_on calls name area)
time_of_sync (Err e) calls after name area ok err = subst (λ (ys : List Call). Rests (length calls) (length ys) (images_of calls) (images_of ys)) (sym err) (rests_here (length calls) (images_of calls))

-- what is told after an action, here
pub told_of_write : {E : Type 0} (r : Result (Unit {0}) E) (calls after : List Call) (name : List ℕ) (area : Area) (at : ℕ) (bytes : List ℕ) → Grew r calls after name area (Write at bytes)
    → OnOk r (WhereTold (Some (content_of calls name area)) (λ before. Some (content_of after name area) ≡ Some (written at bytes before)))
told_of_write (Err e) calls after name area at bytes ok = tt
told_of_write (Ok u) calls after name area at bytes ok = λ before h.
    ap Some (ap (λ (ys : List Call). content_of ys name area) ok ∙ (content_of-here calls name area (Write at bytes) ∙ ap (written at bytes) (same_Some (content_of calls name area) before h)))

-- and of other areas
pub told_elsewhere : {E : Type 0} (r : Result (Unit {0}) E) (calls after : List Call) (name : List ℕ) (area : Area) (action : Action)
    → Grew r calls after name area action → OnErr r (after ≡ calls) → (n : List ℕ) (b : Area) → IsOther name area n b → Some (content_of after n b) ≡ Some (content_of calls n b)
told_elsewhere (Ok u) calls after name area action ok err n b o = ap Some (ap (λ (ys : List Call). content_of ys n b) ok ∙ content_of-apart calls name area action n b o)
told_elsewhere (Err e) calls after name area action ok err n b o = ap (λ (ys : List Call). Some (content_of ys n b)) err

told_kept : {E : Type 0} (r : Result (Unit {0}) E) (calls after : List Call) (name : List ℕ) (area : Area) (action : Action) (n : List ℕ) (b : Area)
    → content_after action (content_of calls n b) ≡ content_of calls n b → Grew r calls after name area action → OnErr r (after ≡ calls) → Some (content_of after n b) ≡ Some (content_of calls n b)
told_kept (Ok u) calls after name area action n b kept ok err = ap Some (ap (λ (ys : List Call). content_of ys n b) ok ∙ content_of-kept calls name area action n b kept)
told_kept (Err e) calls after name area action n b kept ok err = ap (λ (ys : List Call). Some (content_of ys n b)) err

pub told_after_sync : {E : Type 0} (r : Result (Unit {0}) E) (calls after : List Call) (name : List ℕ) (area : Area)
    → Grew r calls after name area Sync → OnErr r (after ≡ calls) → (n : List ℕ) (b : Area) → Some (content_of after n b) ≡ Some (content_of calls n b)
told_after_sync r calls after name area ok err n b = told_kept r calls after name area Sync n b refl ok err

pub told_after_tried : {E : Type 0} (r : Result (Unit {0}) E) (calls after : List Call) (name : List ℕ) (area : Area) (at len : ℕ)
    → Grew r calls after name area (Tried at len) → OnErr r (after ≡ calls) → (n : List ℕ) (b : Area) → Some (content_of after n b) ≡ Some (content_of calls n b)
told_after_tried r calls after name area at len ok err n b = told_kept r calls after name area (Tried at len) n b refl ok err

-- what stays is torn, whatever the range
pub torn_where_kept : (calls after : List Call) (name : List ℕ) (area : Area) (at n : ℕ) → Some (content_of after name area) ≡ Some (content_of calls name area)
    → WhereTold (Some (content_of calls name area)) (λ before. (new : List ℕ) × (Some (content_of after name area) ≡ Some new) × Torn at n before new)
torn_where_kept calls after name area at n kept before h =
    (content_of calls name area, kept, subst (λ z. Torn at n z (content_of calls name area)) (same_Some (content_of calls name area) before h) (torn_itself at n (content_of calls name area)))

pub broken_of_write : {E : Type 0} (r : Result (Unit {0}) E) (calls after : List Call) (name : List ℕ) (area : Area) (at n : ℕ)
    → OnErr r (after ≡ calls) → OnErr r (WhereTold (Some (content_of calls name area)) (λ before. (new : List ℕ) × (Some (content_of after name area) ≡ Some new) × Torn at n before new))
broken_of_write (Ok u) calls after name area at n err = tt
broken_of_write (Err e) calls after name area at n err = torn_where_kept calls after name area at n (ap (λ (ys : List Call). Some (content_of ys name area)) err)

-- an action that leaves what a read gives, and nothing else
settles : (after calls : List Call) (name : List ℕ) (area : Area) (action : Action) → after ≡ calls ++ call_of name area action ∷ []
    → ((c : List ℕ) → left_after action (content_of calls name area) (left_of calls name area) c → c ≡ content_after action (content_of calls name area))
    → Leaves (images_of after) (length after) name area (content_of after name area)
settles after calls name area action grew only c h =
    let there : left_of (calls ++ call_of name area action ∷ []) name area c = subst (λ (ys : List Call). left_of ys name area c) (take_whole after ∙ grew) h in
    only c (left_of-here calls name area action c there) ∙ sym (ap (λ (ys : List Call). content_of ys name area) grew ∙ content_of-here calls name area action)

pub settled_by_sync : {E : Type 0} (r : Result (Unit {0}) E) (calls after : List Call) (name : List ℕ) (area : Area)
    → Grew r calls after name area Sync → OnOk r (WhereTold (Some (content_of after name area)) (Leaves (images_of after) (length after) name area))
settled_by_sync (Err e) calls after name area ok = tt
settled_by_sync (Ok u) calls after name area ok = λ bytes told c h.
    settles after calls name area Sync ok (λ d is. is) c h ∙ same_Some (content_of after name area) bytes told

pub told_of_put : {E : Type 0} (r : Result (Unit {0}) E) (calls after : List Call) (name : List ℕ) (area : Area) (bytes : List ℕ)
    → Grew r calls after name area (Put bytes) → OnOk r (Some (content_of after name area) ≡ Some bytes)
told_of_put (Err e) calls after name area bytes ok = tt
told_of_put (Ok u) calls after name area bytes ok = ap Some (ap (λ (ys : List Call). content_of ys name area) ok ∙ content_of-here calls name area (Put bytes))

pub settled_by_put : {E : Type 0} (r : Result (Unit {0}) E) (calls after : List Call) (name : List ℕ) (area : Area) (bytes : List ℕ)
    → Grew r calls after name area (Put bytes) → OnOk r (Leaves (images_of after) (length after) name area bytes)
settled_by_put (Err e) calls after name area bytes ok = tt
settled_by_put (Ok u) calls after name area bytes ok = λ c h.
    settles after calls name area (Put bytes) ok (λ d is. is) c h ∙ (ap (λ (ys : List Call). content_of ys name area) ok ∙ content_of-here calls name area (Put bytes))
