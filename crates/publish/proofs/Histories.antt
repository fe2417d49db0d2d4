-- Publications one after another, of this slot and of others.
use Rattle.std.proofs.Common.{◌≡◌, ◌≢◌, inl, ⊎_elim, ℕ, zero, suc, Ok, ◌+◌, ◌≤◌, List, [], ◌∷◌, Option, Result, Contains, refl, ap, sym, subst, ◌∙◌, arith}
use Rattle.std.proofs.lemmas.Bool.{cases_lt}
use Rattle.shelf_model.specs.declared.shelf.Area.{Area}
use Rattle.shelf_model.specs.declared.shelf.Area.TheVariants.{A, B}
use Rattle.shelf_model.specs.Shelf.{Told, Images, Passes, Rests, Leaves}
use Rattle.publish.specs.declared.gates.PubErr.{PubErr}
use Rattle.unit_set.specs.Slot.{Slot, slot_text}
use Rattle.unit_set.specs.Held as units
use Rattle.publish.specs.declared.area.Standing.{Standing}
use Rattle.publish.specs.Area.{Edition, seq_of, free}
use Rattle.publish.specs.Verdict.{held}
use Rattle.publish.specs.Crash.{EachHolds, NeverFalls, Publishes, ForBoth, Fits, NowHolds, Publication, as_next}
use Rattle.publish.specs.History.{Follows, AtLeast}

-- moments that went by stand
abbrev Kept : ℕ → Images → Images → Type 0
Kept t past since = (m : ℕ) (n : List ℕ) (b : Area) (c : List ℕ) → m ≤ t → (past m n b c → since m n b c) × (since m n b c → past m n b c)

each_on : (from t0 t1 : ℕ) (i0 i1 : Images) (slot : Slot) (P : Option Edition → Type 0) → Kept t0 i0 i1 → EachHolds i0 from t0 slot P → EachHolds i1 t0 t1 slot P → EachHolds i1 from t1 slot P
each_on from t0 t1 i0 i1 slot P kept first second m a b low high ia ib =
    ⊎_elim
    (λ late. second m a b (omega (arith, late)) high ia ib)
    (λ early. first m a b low early ((kept m (slot_text slot) A a early).1 ia) ((kept m (slot_text slot) B b early).1 ib))
    (cases_lt t0 m)

never_on : (from t0 t1 : ℕ) (i0 i1 : Images) (slot : Slot) → Kept t0 i0 i1 → NeverFalls i0 from t0 slot → NeverFalls i1 t0 t1 slot → NeverFalls i1 from t1 slot
never_on from t0 t1 i0 i1 slot kept first second m k a b low mid high ia ib =
    ⊎_elim
    (λ m_late. second m k a b (omega (arith, m_late)) mid high ia ib)
    (λ m_early. ⊎_elim
    (λ k_late.
    let (c, d, ic, id, le) = second t0 k a b (omega arith) (omega (arith, k_late)) high ia ib in
    let (e, f, ie, jf, less) = first m t0 c d low m_early (omega arith) ((kept t0 (slot_text slot) A c (omega arith)).1 ic) ((kept t0 (slot_text slot) B d (omega arith)).1 id) in
    (e, f, (kept m (slot_text slot) A e m_early).0 ie, (kept m (slot_text slot) B f m_early).0 jf, omega (arith, le, less)))
    (λ k_early.
    let (e, f, ie, jf, less) = first m k a b low mid k_early ((kept k (slot_text slot) A a k_early).1 ia) ((kept k (slot_text slot) B b k_early).1 ib) in
    (e, f, (kept m (slot_text slot) A e m_early).0 ie, (kept m (slot_text slot) B f m_early).0 jf, less))
    (cases_lt t0 k))
    (cases_lt t0 m)

-- what no image is added to
still_follows : (from t0 t1 : ℕ) (i0 i1 : Images) (slot : Slot) (all : List (Option Edition)) → from ≤ t0 → Kept t0 i0 i1
    → ((m k : ℕ) (b : Area) (c : List ℕ) → t0 ≤ m → m ≤ k → k ≤ t1 → i1 k (slot_text slot) b c → i1 m (slot_text slot) b c) → Follows i0 from t0 slot all → Follows i1 from t1 slot all
still_follows from t0 t1 i0 i1 slot all began kept fewer follows = record {
  each = each_on from t0 t1 i0 i1 slot (λ q. Contains all q) kept follows.each (λ m a b low high ia ib.
      follows.each t0 a b began (omega arith) ((kept t0 (slot_text slot) A a (omega arith)).1 (fewer t0 m A a (omega arith) low high ia)) ((kept t0 (slot_text slot) B b (omega arith)).1 (fewer t0 m B b (omega arith) low high ib)));
  never_falls = never_on from t0 t1 i0 i1 slot kept follows.never_falls (λ m k a b low mid high ia ib. (a, b, fewer m k A a low mid high ia, fewer m k B b low mid high ib, omega arith));
}

-- a load of any slot
pub follows_rest : (from t0 t1 : ℕ) (i0 i1 : Images) (slot : Slot) (all : List (Option Edition)) → from ≤ t0 → Rests t0 t1 i0 i1 → Follows i0 from t0 slot all → Follows i1 from t1 slot all
follows_rest from t0 t1 i0 i1 slot all began rests = still_follows from t0 t1 i0 i1 slot all began rests.keeps (λ m k b c. rests.fewer m k (slot_text slot) b c)

-- a publication of another slot
pub follows_other : (from t0 t1 : ℕ) (i0 i1 : Images) (slot : Slot) (name : List ℕ) (area : Area) (all : List (Option Edition)) → from ≤ t0 → slot_text slot ≢ name → Passes t0 t1 i0 i1 name area
    → Follows i0 from t0 slot all → Follows i1 from t1 slot all
follows_other from t0 t1 i0 i1 slot name area all began differs passes =
    still_follows from t0 t1 i0 i1 slot all began passes.keeps (λ m k b c low mid high h. passes.others m k (slot_text slot) b c low mid high (inl differs) h)

-- a publication of this slot
pub follows_more : {T : Type 0} (result : Result T PubErr) (from t0 t1 : ℕ) (i0 i1 : Images) (slot : Slot) (area : Area) (all more : List (Option Edition)) (old new : Option Edition)
    → Passes t0 t1 i0 i1 (slot_text slot) area → Publishes i1 t0 t1 slot old new result → ((q : Option Edition) → Contains all q → Contains more q) → Contains more old → Contains more new
    → Follows i0 from t0 slot all → Follows i1 from t1 slot more
follows_more result from t0 t1 i0 i1 slot area all more old new passes publishes wider has_old has_new follows = record {
  each = each_on from t0 t1 i0 i1 slot (λ q. Contains more q) passes.keeps (λ m a b low high ia ib. wider (held slot a b) (follows.each m a b low high ia ib))
      (λ m a b low high ia ib. ⊎_elim (λ same. subst (λ q. Contains more q) (sym same) has_old) (λ same. subst (λ q. Contains more q) (sym same) has_new) (publishes.since m a b low high ia ib));
  never_falls = never_on from t0 t1 i0 i1 slot passes.keeps follows.never_falls publishes.never_falls;
}

-- at the start
pub follows_start : (t : ℕ) (i : Images) (slot : Slot) (a b : List ℕ) (all : List (Option Edition)) → Leaves i t (slot_text slot) A a → Leaves i t (slot_text slot) B b → Contains all (held slot a b) → Follows i t t slot all
follows_start t i slot a b all still_a still_b has = record {
  each = λ m c d low high ic id.
      let e_m : m ≡ t = omega (arith, low, high) in
      subst (λ q. Contains all q) (sym (ap (λ x. held slot x d) (still_a c (subst (λ k. i k (slot_text slot) A c) e_m ic)) ∙ ap (held slot a) (still_b d (subst (λ k. i k (slot_text slot) B d) e_m id)))) has;
  never_falls = λ m k c d low mid high ic id.
      let e_m : k ≡ m = omega (arith, low, mid, high) in
      (c, d, subst (λ x. i x (slot_text slot) A c) e_m ic, subst (λ x. i x (slot_text slot) B d) e_m id, omega arith);
}

-- from an acknowledged publication on, nothing less is held
pub acknowledged : (from t to : ℕ) (images : Images) (slot : Slot) (q : Option Edition) → from ≤ t → EachHolds images t t slot (λ p. p ≡ q) → NeverFalls images from to slot → AtLeast images t to slot q
acknowledged from t to images slot q began now never m a b low high ia ib =
    let (c, d, ic, id, le) = never t m a b began low high ia ib in
    omega (arith, ap seq_of (now t c d (omega arith) (omega arith) ic id), le)

wider_one : (x y z q : Option Edition) → Contains (x ∷ []) q → Contains (x ∷ y ∷ z ∷ []) q
wider_one x y z q (zero, low, is) = (0, omega arith, is)
wider_one x y z q (suc k, low, is) = absurd (omega (arith, low))

wider_two : (x y z q : Option Edition) → Contains (x ∷ y ∷ []) q → Contains (x ∷ y ∷ z ∷ []) q
wider_two x y z q (zero, low, is) = (0, omega arith, is)
wider_two x y z q (suc zero, low, is) = (1, omega arith, is)
wider_two x y z q (suc (suc k), low, is) = absurd (omega (arith, low))

-- one publication, with room for another
pub one_follows : {T : Type 0} (result : Result T PubErr) (told0 told1 : Told) (t0 t1 : ℕ) (i0 i1 : Images) (s0 s1 : Standing) (u : units.Held) (q : Option Edition)
    → Fits told0 i0 t0 u.slot s0 → Publication told0 told1 t0 t1 i0 i1 s0 s1 u result
    → ForBoth told0 u.slot (λ a b. Follows i1 t0 t1 u.slot (held u.slot a b ∷ as_next (s0.seq + 1) u ∷ q ∷ []))
one_follows result told0 told1 t0 t1 i0 i1 s0 s1 u q fits p a b ta tb la lb =
    let fit = fits a b ta tb la lb in
    let old = held u.slot a b in
    let new = as_next (s0.seq + 1) u in
    follows_more result t0 t0 t1 i0 i1 u.slot (free s0.held) (old ∷ []) (old ∷ new ∷ q ∷ []) old new p.passes (p.crash a b ta tb la lb) (wider_one old new q)
    (0, omega arith, refl) (1, omega arith, refl) (follows_start t0 i0 u.slot a b (old ∷ []) fit.still_a fit.still_b (0, omega arith, refl))

-- and then another
pub two_follow : {T : Type 0} (result : Result T PubErr) (done : ℕ) (told0 told1 told2 : Told) (t0 t1 t2 : ℕ) (i0 i1 i2 : Images) (s0 s1 s2 : Standing) (u v : units.Held)
    → v.slot ≡ u.slot → s1.seq ≡ s0.seq + 1 → Fits told0 i0 t0 u.slot s0 → Publication {T = ℕ} told0 told1 t0 t1 i0 i1 s0 s1 u (Ok done) → Publication told1 told2 t1 t2 i1 i2 s1 s2 v result
    → ForBoth told0 u.slot (λ a b. Follows i2 t0 t2 u.slot (held u.slot a b ∷ as_next (s0.seq + 1) u ∷ as_next (s0.seq + 2) v ∷ []))
two_follow result done told0 told1 told2 t0 t1 t2 i0 i1 i2 s0 s1 s2 u v same seq fits p r a b ta tb la lb =
    let old = held u.slot a b in
    let mid = as_next (s0.seq + 1) u in
    let new = as_next (s0.seq + 2) v in
    let all = old ∷ mid ∷ new ∷ [] in
    let before : Follows i1 t0 t1 v.slot all = subst (λ n. Follows i1 t0 t1 n all) (sym same) (one_follows {T = ℕ} (Ok done) told0 told1 t0 t1 i0 i1 s0 s1 u new fits p a b ta tb la lb) in
    let now : NowHolds told1 v.slot mid = subst (λ n. NowHolds told1 n mid) (sym same) (p.now a b ta tb la lb) in
    let crash = r.crash now.first now.second now.tells_a now.tells_b now.small_a now.small_b in
    let e_seq : s0.seq + 2 ≡ s1.seq + 1 = omega (arith, seq) in
    let has_new : Contains all (as_next (s1.seq + 1) v) = subst (λ k. Contains all (as_next k v)) e_seq (2, omega arith, refl) in
    let has_mid : Contains all (held v.slot now.first now.second) = subst (λ q. Contains all q) (sym now.holds) (1, omega arith, refl) in
    subst (λ n. Follows i2 t0 t2 n all) same
    (follows_more result t0 t1 t2 i1 i2 v.slot (free s1.held) all all (held v.slot now.first now.second) (as_next (s1.seq + 1) v) r.passes crash (λ q h. h) has_mid has_new before)
