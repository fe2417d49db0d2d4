-- Calls one after another.
use Rattle.std.proofs.Common.{⊎_elim, ℕ, ◌<◌, ◌≤◌, List, refl, subst, sym, arith}
use Rattle.std.proofs.Math.Nat.{eq-or-lt_of_le}
use Rattle.std.proofs.lemmas.Bool.{cases_lt}
use Rattle.shelf_model.specs.declared.shelf.Area.{Area}
use Rattle.shelf_model.specs.Shelf.{Images, Step, Elapses, Passes, Rests, Stands, Torn, EachMoment, Leaves}

pub torn_itself : (at n : ℕ) (c : List ℕ) → Torn at n c c
torn_itself at n c = record { no_shorter = omega arith; no_longer = omega arith; same = λ i h o. refl }

-- where the images stand, none is gained
pub rests_of_stands : (t0 t1 : ℕ) (i0 i1 : Images) → Stands t0 t1 i0 i1 → Rests t0 t1 i0 i1
rests_of_stands t0 t1 i0 i1 stands = record {
  later = stands.later;
  keeps = stands.keeps;
  fewer = λ m k n b c low mid high h. (stands.same m n b c low (omega (arith, mid, high))).0 ((stands.same k n b c (omega (arith, low, mid)) high).1 h);
}

-- a call, and then one that does nothing
pub then_still : (t0 t1 t2 : ℕ) (i0 i1 i2 : Images) (name : List ℕ) (area : Area) (step : Step) → ((c : List ℕ) → step c c)
    → Elapses t0 t1 i0 i1 name area step → Rests t1 t2 i1 i2 → Elapses t0 t2 i0 i2 name area step
then_still t0 t1 t2 i0 i1 i2 name area step itself first second =
    let at_first : (c : List ℕ) → i1 t1 name area c → (d : List ℕ) × i0 t0 name area d × step d c =
    λ c h. ⊎_elim
    (λ same. (c, (first.keeps t0 name area c (omega arith)).1 (subst (λ k. i1 k name area c) (sym same) h), itself c))
    (λ later. first.this t1 c later (omega arith) h)
    (eq-or-lt_of_le first.later) in
    let back : (k : ℕ) (c : List ℕ) → t1 < k → k ≤ t2 → i2 k name area c → i1 t1 name area c =
    λ k c low high h. (second.keeps t1 name area c (omega arith)).1 (second.fewer t1 k name area c (omega arith) (omega (arith, low)) high h) in
    record {
      later = omega (arith, first.later, second.later);
      keeps = λ m n b c le. (
        (λ h. (second.keeps m n b c (omega (arith, le, first.later))).0 ((first.keeps m n b c le).0 h)),
        (λ h. (first.keeps m n b c le).1 ((second.keeps m n b c (omega (arith, le, first.later))).1 h)),
      );
      others = λ m k n b c low mid high o h.
          ⊎_elim
          (λ k_late. ⊎_elim
          (λ m_late. second.fewer m k n b c (omega (arith, m_late)) mid high h)
          (λ m_early. (second.keeps m n b c m_early).0 (first.others m t1 n b c low m_early (omega arith) o
          ((second.keeps t1 n b c (omega arith)).1 (second.fewer t1 k n b c (omega arith) (omega (arith, k_late)) high h))))
          (cases_lt t1 m))
          (λ k_early. (second.keeps m n b c (omega (arith, mid, k_early))).0 (first.others m k n b c low mid k_early o ((second.keeps k n b c k_early).1 h)))
          (cases_lt t1 k);
      this = λ m c low high h.
          ⊎_elim
          (λ late. at_first c (back m c late high h))
          (λ early. first.this m c low early ((second.keeps m name area c early).1 h))
          (cases_lt t1 m);
      steady = λ m k c low mid high h.
          ⊎_elim
          (λ k_late. ⊎_elim
          (λ m_late. second.fewer m k name area c (omega (arith, m_late)) mid high h)
          (λ m_early. (second.keeps m name area c m_early).0 (first.steady m t1 c low m_early (omega arith) (back k c k_late high h)))
          (cases_lt t1 m))
          (λ k_early. (second.keeps m name area c (omega (arith, mid, k_early))).0 (first.steady m k c low mid k_early ((second.keeps k name area c k_early).1 h)))
          (cases_lt t1 k);
    }

-- a call is a passing
pub passes_by : (t0 t1 : ℕ) (i0 i1 : Images) (name : List ℕ) (area : Area) (step : Step) → Elapses t0 t1 i0 i1 name area step → Passes t0 t1 i0 i1 name area
passes_by t0 t1 i0 i1 name area step call = record {
  later = call.later;
  keeps = call.keeps;
  others = call.others;
  some = λ m k c low mid high h.
      ⊎_elim
      (λ same. ⊎_elim
      (λ there. (c, subst (λ x. i1 x name area c) (omega (arith, there, same)) h))
      (λ later. let (d, old, made) = call.this k c (omega (arith, later, same)) high h in (d, subst (λ x. i1 x name area d) same ((call.keeps t0 name area d (omega arith)).0 old)))
      (eq-or-lt_of_le mid))
      (λ later. (c, call.steady m k c later mid high h))
      (eq-or-lt_of_le low);
}

pub no_pass : (t : ℕ) (i : Images) (name : List ℕ) (area : Area) → Passes t t i i name area
no_pass t i name area = record {
  later = omega arith;
  keeps = λ m n b c le. ((λ h. h), (λ h. h));
  others = λ m k n b c low mid high o h. subst (λ x. i x n b c) (omega arith) h;
  some = λ m k c low mid high h. (c, subst (λ x. i x name area c) (omega arith) h);
}

pub then_passes : (t0 t1 t2 : ℕ) (i0 i1 i2 : Images) (name : List ℕ) (area : Area) → Passes t0 t1 i0 i1 name area → Passes t1 t2 i1 i2 name area → Passes t0 t2 i0 i2 name area
then_passes t0 t1 t2 i0 i1 i2 name area first second = record {
  later = omega (arith, first.later, second.later);
  keeps = λ m n b c le. (
    (λ h. (second.keeps m n b c (omega (arith, le, first.later))).0 ((first.keeps m n b c le).0 h)),
    (λ h. (first.keeps m n b c le).1 ((second.keeps m n b c (omega (arith, le, first.later))).1 h)),
  );
  others = λ m k n b c low mid high o h.
      ⊎_elim
      (λ k_late. ⊎_elim
      (λ m_late. second.others m k n b c (omega (arith, m_late)) mid high o h)
      (λ m_early. (second.keeps m n b c m_early).0 (first.others m t1 n b c low m_early (omega arith) o
      ((second.keeps t1 n b c (omega arith)).1 (second.others t1 k n b c (omega arith) (omega (arith, k_late)) high o h))))
      (cases_lt t1 m))
      (λ k_early. (second.keeps m n b c (omega (arith, mid, k_early))).0 (first.others m k n b c low mid k_early o ((second.keeps k n b c k_early).1 h)))
      (cases_lt t1 k);
  some = λ m k c low mid high h.
      ⊎_elim
      (λ k_late. ⊎_elim
      (λ m_late. second.some m k c (omega (arith, m_late)) mid high h)
      (λ m_early. let (d, there) = second.some t1 k c (omega arith) (omega (arith, k_late)) high h in
      let (e, here) = first.some m t1 d low m_early (omega arith) ((second.keeps t1 name area d (omega arith)).1 there) in
      (e, (second.keeps m name area e m_early).0 here))
      (cases_lt t1 m))
      (λ k_early. let (e, here) = first.some m k c low mid k_early ((second.keeps k name area c k_early).1 h) in
      (e, (second.keeps m name area e (omega (arith, mid, k_early))).0 here))
      (cases_lt t1 k);
}

-- what each image had up to now, and has after one call more
pub each_more : (t t0 t1 : ℕ) (i0 i1 : Images) (name : List ℕ) (area : Area) (step : Step) (P : List ℕ → Type 0) → EachMoment i0 t t0 name area P → Elapses t0 t1 i0 i1 name area step
    → ((d c : List ℕ) → i0 t0 name area d → step d c → P c) → EachMoment i1 t t1 name area P
each_more t t0 t1 i0 i1 name area step P before call made m c low high h =
    ⊎_elim
    (λ late. let (d, old, how) = call.this m c late high h in made d c old how)
    (λ early. before m c low early ((call.keeps m name area c early).1 h))
    (cases_lt t0 m)

pub then_rests : (t0 t1 t2 : ℕ) (i0 i1 i2 : Images) → Rests t0 t1 i0 i1 → Rests t1 t2 i1 i2 → Rests t0 t2 i0 i2
then_rests t0 t1 t2 i0 i1 i2 first second = record {
  later = omega (arith, first.later, second.later);
  keeps = λ m n b c le. (
    (λ h. (second.keeps m n b c (omega (arith, le, first.later))).0 ((first.keeps m n b c le).0 h)),
    (λ h. (first.keeps m n b c le).1 ((second.keeps m n b c (omega (arith, le, first.later))).1 h)),
  );
  fewer = λ m k n b c low mid high h.
      ⊎_elim
      (λ k_late. ⊎_elim
      (λ m_late. second.fewer m k n b c (omega (arith, m_late)) mid high h)
      (λ m_early. (second.keeps m n b c m_early).0 (first.fewer m t1 n b c low m_early (omega arith)
      ((second.keeps t1 n b c (omega arith)).1 (second.fewer t1 k n b c (omega arith) (omega (arith, k_late)) high h))))
      (cases_lt t1 m))
      (λ k_early. (second.keeps m n b c (omega (arith, mid, k_early))).0 (first.fewer m k n b c low mid k_early ((second.keeps k n b c k_early).1 h)))
      (cases_lt t1 k);
}

-- what is left by one moment is left by those after a rest
pub still_leaves : (t0 t1 : ℕ) (i0 i1 : Images) (n : List ℕ) (b : Area) (x : List ℕ) → Rests t0 t1 i0 i1 → Leaves i0 t0 n b x → Leaves i1 t1 n b x
still_leaves t0 t1 i0 i1 n b x rests leaves c h =
    leaves c ((rests.keeps t0 n b c (omega arith)).1 (rests.fewer t0 t1 n b c (omega arith) rests.later (omega arith) h))
