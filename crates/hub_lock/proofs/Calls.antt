-- For a crate above: a call that enters, changes the value by one call of its own, and leaves.
-- The journal is log when the seat s enters and becomes n, and the value is y when n leaves and becomes m.
use Rattle.std.proofs.Common.{◌≡◌, List, [], ◌∷◌, ◌++◌, length, sym, ap, ◌∙◌, subst, Bool, true, false, Ok, Err}
use Rattle.std.specs.Prelude.{Result, IfOk, OnOk, OnErr, is_ok}
use Rattle.hub_lock.specs.Places.{StartsWith, IsWithin}
use Rattle.hub_lock.specs.Seats.{SeatState, inside_with, own_entries, MayLeave, Leaves, Adds, Sees}
use Rattle.hub_lock.proofs.Entries.{last_same}

-- what `enter` tells: the seat s came inside, has seen this journal, and is then n
pub record CameIn {O E : Type 0} (s : SeatState O E) (log : List E) (n : SeatState O E) : Type 0 where
  pub inside : n ≡ inside_with s log
  pub later : StartsWith n.seen s.seen
  pub within : IsWithin n.seen n.own
  pub entries : own_entries n ≡ own_entries s

module _ {T O E : Type 0} (journal : T → List E) where
  module _ (rule : List E → Type 0) where
    -- one entry more, which the seat may have as its own
    pub may_add : (s : SeatState O E) (log : List E) (y : T) (n : SeatState O E) (e : E) → CameIn s log n → journal y ≡ log ++ e ∷ [] → rule (own_entries s ++ e ∷ []) → MayLeave journal rule n y true
    may_add s log y n e h is may = (e, is ∙ ap (λ l. l ++ e ∷ []) (sym (ap (λ k. k.seen) h.inside)), subst (λ l. rule (l ++ e ∷ [])) (sym h.entries) may)

    -- the same journal
    pub may_not : (s : SeatState O E) (log : List E) (y : T) (n : SeatState O E) → CameIn s log n → journal y ≡ log → MayLeave journal rule n y false
    may_not s log y n h is = is ∙ sym (ap (λ k. k.seen) h.inside)

    -- a call that answers Ok where it added an entry, which may name the reply
    pub may_leave : {A B : Type 0} (s : SeatState O E) (log : List E) (y : T) (n : SeatState O E) (e : A → E) (r : Result A B) (added : Bool) → added ≡ is_ok r → CameIn s log n → IfOk r (λ a. journal y ≡ log ++ e a ∷ []) → OnErr r (journal y ≡ log)
        → ((a : A) → rule (own_entries s ++ e a ∷ [])) → MayLeave journal rule n y added
    may_leave {A} {B} s log y n e r added is h ok err may = subst (MayLeave journal rule n y) (sym is) (by r ok err)
      where
        by : (r : Result A B) → IfOk r (λ a. journal y ≡ log ++ e a ∷ []) → OnErr r (journal y ≡ log) → MayLeave journal rule n y (is_ok r)
        by (Ok a) ok err = may_add s log y n (e a) h ok (may a)
        by (Err b) ok err = may_not s log y n h err

  pub added_one : (s : SeatState O E) (log : List E) (y : T) (n m : SeatState O E) (e : E) → CameIn s log n → journal y ≡ log ++ e ∷ [] → Leaves journal n y true m → Adds s log e m
  added_one s log y n m e h is l =
      let d = l.2 in
      let seen : n.seen ≡ log = ap (λ k. k.seen) h.inside in
      let own : n.own ≡ s.own = ap (λ k. k.own) h.inside in
      let same : l.0 ≡ e = last_same n.seen l.0 e (sym l.1 ∙ (is ∙ ap (λ k. k ++ e ∷ []) (sym seen))) in
      record {
        same = (d.same.0 ∙ ap (λ k. k.turn) h.inside, d.same.1 ∙ ap (λ k. k.opening) h.inside, d.same.2 ∙ ap (λ k. k.parts) h.inside, d.same.3);
        later = subst (λ k. StartsWith k s.seen) seen h.later;
        seen = d.seen ∙ (λ i. seen i ++ same i ∷ []);
        own = d.own ∙ (λ i. own i ++ length (seen i) ∷ []);
        within = d.within;
        entries = d.entries ∙ (λ i. h.entries i ++ same i ∷ []);
      }

  pub added_none : (s : SeatState O E) (log : List E) (y : T) (n m : SeatState O E) → CameIn s log n → Leaves journal n y false m → Sees s m
  added_none s log y n m h l = record {
    same = (
      ap (λ k. k.turn) l ∙ ap (λ k. k.turn) h.inside,
      ap (λ k. k.opening) l ∙ ap (λ k. k.opening) h.inside,
      ap (λ k. k.own) l ∙ ap (λ k. k.own) h.inside,
      ap (λ k. k.parts) l ∙ ap (λ k. k.parts) h.inside,
      ap (λ k. k.inside) l,
    );
    later = subst (λ k. StartsWith k s.seen) (sym (ap (λ k. k.seen) l)) h.later;
    within = subst (λ (k : SeatState O E). IsWithin k.seen k.own) (sym l) h.within;
    entries = ap (λ k. own_entries k) l ∙ h.entries;
  }

  pub adds : {A B : Type 0} (s : SeatState O E) (log : List E) (y : T) (n m : SeatState O E) (e : A → E) (r : Result A B) (added : Bool) → added ≡ is_ok r → CameIn s log n → IfOk r (λ a. journal y ≡ log ++ e a ∷ []) → Leaves journal n y added m
      → IfOk r (λ a. Adds s log (e a) m)
  adds {A} {B} s log y n m e r added is h ok l = by r ok (subst (λ b. Leaves journal n y b m) is l)
    where
      by : (r : Result A B) → IfOk r (λ a. journal y ≡ log ++ e a ∷ []) → Leaves journal n y (is_ok r) m → IfOk r (λ a. Adds s log (e a) m)
      by (Ok a) ok l = added_one s log y n m (e a) h ok l
      by (Err b) ok l = tt

  pub sees : {A B : Type 0} (s : SeatState O E) (log : List E) (y : T) (n m : SeatState O E) (r : Result A B) (added : Bool) → added ≡ is_ok r → CameIn s log n → Leaves journal n y added m → OnErr r (Sees s m)
  sees {A} {B} s log y n m r added is h l = by r (subst (λ b. Leaves journal n y b m) is l)
    where
      by : (r : Result A B) → Leaves journal n y (is_ok r) m → OnErr r (Sees s m)
      by (Ok a) l = tt
      by (Err b) l = added_none s log y n m h l

-- the reply follows from the entries before it
pub replies : {O E A B : Type 0} (s m : SeatState O E) (before : List E) (e : A → E) (Q : List E → A → Type 0) (r : Result A B) → IfOk r (Q before) → IfOk r (λ a. Adds s before (e a) m) → IfOk r (λ a. (l : List E) × Q l a × Adds s l (e a) m)
replies s m before e Q (Ok a) q h = (before, q, h)
replies s m before e Q (Err b) q h = tt

pub some_before : {O E A B : Type 0} (s m : SeatState O E) (before : List E) (e : E) (r : Result A B) → OnOk r (Adds s before e m) → OnOk r ((l : List E) × Adds s l e m)
some_before s m before e (Ok a) h = (before, h)
some_before s m before e (Err b) h = tt

-- a fact on Ok or on Err, where another follows from it
pub ok_as : {A B P Q : Type 0} (r : Result A B) → (P → Q) → OnOk r P → OnOk r Q
ok_as (Ok a) f h = f h
ok_as (Err b) f h = tt

pub err_as : {A B P Q : Type 0} (r : Result A B) → (P → Q) → OnErr r P → OnErr r Q
err_as (Ok a) f h = tt
err_as (Err b) f h = f h
