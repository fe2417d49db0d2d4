-- A call of `publish`, from its stages.
use Rattle.std.proofs.Common.{◌≡◌, ◌⊎◌, inl, inr, ⊎_elim, ℕ, ◌+◌, ◌^◌, ◌<◌, ◌≤◌, max, nat_lt, false, List, ◌∷◌, ◌++◌, length, Some, None, Option, Result, Ok, Err, OnOk, IsErr, IsErrAnd, refl, ap, sym, subst, ◌∙◌, arith}
use Rattle.std.specs.Int.{w32, w64, to_le_bytes}
use Rattle.std.proofs.lemmas.Bool.Decides.{nat_tests}
use Rattle.std.proofs.lemmas.List.{length-append}
use Rattle.std.proofs.lemmas.Option.{same_Some, none-some}
use Rattle.shelf_model.specs.declared.shelf.Area.{Area}
use Rattle.shelf_model.specs.declared.shelf.Area.TheVariants.{A, B}
use Rattle.shelf_model.specs.Shelf.{Told, Images, Leaves}
use Rattle.shelf_model.proofs.Moments.{no_pass}
use Rattle.shelf_model.proofs.Writes.{length-written}
use Rattle.unit_set.specs.Slot.{Slot, slot_text}
use Rattle.unit_set.specs.Held.{Held, IsUnit}
use Rattle.unit_format.specs.declared.header.Version.TheVariants.{Two}
use Rattle.unit_format.specs.Units.{raw_of}
use Rattle.unit_format.proofs.RawLaws.{have_texts}
use Rattle.unit_format.proofs.Lengths.{are_short}
use Rattle.publish.specs.declared.area.Standing.{Standing}
use Rattle.publish.specs.declared.area.Door.{Door}
use Rattle.publish.specs.declared.area.Door.TheVariants.{Opened}
use Rattle.publish.specs.declared.gates.PubErr.{PubErr}
use Rattle.publish.specs.declared.gates.PubErr.TheVariants.{ShelfFault, WornOut, Memory}
use Rattle.publish.specs.Gates.{Ends, Runs, published}
use Rattle.publish.specs.Area.{Edition, body_of, which, seq_of, door_of, door_in, free, other, side}
use Rattle.publish.specs.Verdict.{fine, held}
use Rattle.publish.specs.Crash.{ForBoth, IsStanding, IsFit, Fits, Publishes, Publication, NowHolds, advanced, text_of}
use Rattle.publish.specs.Rewriting.{Rewrites, free_door}
use Rattle.publish.proofs.Bytes.{published_form}
use Rattle.publish.proofs.Areas.{fine-published, kept_side, better_at, kept-better, better-new, which-new}
use Rattle.publish.proofs.Crashes.{held_at, publishes_at, whole_holds, still_other, apart}

abbrev failed : {T : Type 0} → PubErr → Result T PubErr
failed e = Err e

-- by the area
side_told : (area : Area) (told : Told) (slot a b : List ℕ) → told slot A ≡ Some a → told slot B ≡ Some b → told slot area ≡ Some (side area a b)
side_told A told slot a b ta tb = ta
side_told B told slot a b ta tb = tb

side_leaves : (area : Area) (images : Images) (now : ℕ) (slot a b : List ℕ) → Leaves images now slot A a → Leaves images now slot B b → Leaves images now slot area (side area a b)
side_leaves A images now slot a b la lb = la
side_leaves B images now slot a b la lb = lb

other_leaves : (area : Area) (images : Images) (now : ℕ) (slot a b : List ℕ) → Leaves images now slot A a → Leaves images now slot B b → Leaves images now slot (other area) (side area b a)
other_leaves A images now slot a b la lb = lb
other_leaves B images now slot a b la lb = la

side_small : (area : Area) (a b : List ℕ) → length a ≤ 4194304 → length b ≤ 4194304 → length (side area a b) ≤ 4194304
side_small A a b la lb = la
side_small B a b la lb = lb

door_small : (x : List ℕ) → length x ≤ 4194304 → door_in x ≡ door_of x
door_small x h = let no : nat_lt 4194304 (length x) ≡ false = grind (arith, nat_tests, h) in rw no refl

side_door : (area : Area) (slot : Slot) (a b : List ℕ) (s : Standing) → IsStanding slot a b s → length a ≤ 4194304 → length b ≤ 4194304 → side area s.a s.b ≡ door_of (side area a b)
side_door A slot a b s is la lb = is.door_a ∙ door_small a la
side_door B slot a b s is la lb = is.door_b ∙ door_small b lb

side_held : (area : Area) (slot : Slot) (a b : List ℕ) → held_at area slot (side area a b) (side area b a) ≡ held slot a b
side_held A slot a b = refl
side_held B slot a b = refl

side_kept : (area : Area) (slot : Slot) (a b : List ℕ) → area ≡ free (which (fine slot a) (fine slot b)) → held slot a b ≡ fine slot (side area b a)
side_kept A slot a b is = sym (subst (λ x. kept_side x (fine slot a) (fine slot b) ≡ held slot a b) (sym is) (kept-better (fine slot a) (fine slot b)))
side_kept B slot a b is = sym (subst (λ x. kept_side x (fine slot a) (fine slot b) ≡ held slot a b) (sym is) (kept-better (fine slot a) (fine slot b)))

pub length-body : (seq : ℕ) (t : List ℕ) → length (body_of seq t) ≡ 12 + length t
unfolding body_of
length-body seq t =
    let eight : length (to_le_bytes w64 seq) ≡ 8 = refl in
    let four : length (to_le_bytes w32 (length t)) ≡ 4 = refl in
    omega (arith, length-append (to_le_bytes w64 seq ++ to_le_bytes w32 (length t)) t, length-append (to_le_bytes w64 seq) (to_le_bytes w32 (length t)), eight, four)

length-published : (body x : List ℕ) → length (published body x) ≡ max (length x) (1 + length body)
length-published body x = omega (arith, length-written 0 (165 ∷ body) x)

pub text_small : (u : Held) → IsUnit u → length (text_of u) ≤ 4194291
unfolding text_of
text_small u is = are_short Two (raw_of u) (have_texts Two u is tt)

pub reads : (u : Held) (seq : ℕ) (x : List ℕ) → seq < 2 ^ 64 → IsUnit u → length x ≤ 4194304 → fine u.slot (published (body_of seq (text_of u)) x) ≡ Some (record { seq = seq; unit = u })
reads u seq x fits is within = fine-published u seq x is fits (text_small u is) (omega (arith, length-published (body_of seq (text_of u)) x, length-body seq (text_of u), text_small u is, within))

-- a call that did nothing
nothing_ends : (T : Type 0) (e : PubErr) (e_is : (e ≡ WornOut) ⊎ (e ≡ Memory)) (now : Option (List ℕ)) (door : Door) (body found : List ℕ) → now ≡ Some found → Ends (failed {T = T} e) now door body found
nothing_ends T WornOut e_is now door body found h = h
nothing_ends T Memory e_is now door body found h = (0, h)
nothing_ends T (ShelfFault k) e_is now door body found h = absurd (⊎_elim (λ x. grind (arith, x)) (λ x. grind (arith, x)) e_is)

pub rewrites_nothing : (T : Type 0) (e : PubErr) → (e ≡ WornOut) ⊎ (e ≡ Memory) → (told : Told) (s : Standing) (u : Held) → Rewrites told told u s (failed {T = T} e)
rewrites_nothing T e e_is told s u = record {
  others = λ n b o. refl;
  silent = λ h. h;
  this = λ found h. nothing_ends T e e_is (told (slot_text u.slot) (free s.held)) _ _ found h;
}

pub publishes_nothing : (T : Type 0) (e : PubErr) → (e ≡ WornOut) ⊎ (e ≡ Memory) → (told : Told) (t : ℕ) (i : Images) (s : Standing) (u : Held) → Fits told i t u.slot s
    → Publication told told t t i i s s u (failed {T = T} e)
publishes_nothing T e e_is told t i s u fits = record {
  passes = no_pass t i (slot_text u.slot) (free s.held);
  longer = λ found h. (found, h, omega arith);
  crash = λ a b ta tb la lb.
      let fit = fits a b ta tb la lb in
      let same : (m : ℕ) (c d : List ℕ) → t ≤ m → m ≤ t → i m (slot_text u.slot) A c → i m (slot_text u.slot) B d → held u.slot c d ≡ held u.slot a b =
      λ m c d low high ic id.
      let e_m : m ≡ t = omega (arith, low, high) in
      ap (λ x. held u.slot x d) (fit.still_a c (subst (λ k. i k (slot_text u.slot) A c) e_m ic)) ∙ ap (held u.slot a) (fit.still_b d (subst (λ k. i k (slot_text u.slot) B d) e_m id)) in
      record {
        opened = t;
        after = omega arith;
        until = omega arith;
        before = same;
        since = λ m c d low high ic id. inl (same m c d low high ic id);
        never_falls = λ m k c d low mid high ic id.
            let e_m : k ≡ m = omega (arith, low, mid, high) in
            (c, d, subst (λ x. i x (slot_text u.slot) A c) e_m ic, subst (λ x. i x (slot_text u.slot) B d) e_m id, omega arith);
        done = tt;
        unopened = λ n is few. omega arith;
      };
  now = tt;
  fits = tt;
}

abbrev next : ℕ → Held → Edition
next n u = record { seq = n; unit = u }

-- the new is held
fit_a : (i : Images) (t : ℕ) (u : Held) (s : Standing) (n : ℕ) (x y : List ℕ) → length x ≤ 4194304 → length y ≤ 4194304 → Leaves i t (slot_text u.slot) A x → Leaves i t (slot_text u.slot) B y
    → fine u.slot x ≡ Some (next n u) → seq_of (fine u.slot y) < n → door_of x ≡ Opened → s.b ≡ door_of y → IsFit i t u.slot x y (advanced A n s)
fit_a i t u s n x y x_small y_small lx ly is_new greater door door_y =
    let now_held : held u.slot x y ≡ Some (next n u) = ap (λ f. better_at A f (fine u.slot y)) is_new ∙ better-new A (next n u) (fine u.slot y) greater in
    record {
      standing = record {
        seq = sym (ap seq_of now_held);
        held = sym (ap (λ f. which f (fine u.slot y)) is_new ∙ which-new A (next n u) (fine u.slot y) greater);
        door_a = sym (door_small x x_small ∙ door);
        door_b = door_y ∙ sym (door_small y y_small);
      };
      still_a = lx;
      still_b = ly;
    }

fit_b : (i : Images) (t : ℕ) (u : Held) (s : Standing) (n : ℕ) (x y : List ℕ) → length x ≤ 4194304 → length y ≤ 4194304 → Leaves i t (slot_text u.slot) B x → Leaves i t (slot_text u.slot) A y
    → fine u.slot x ≡ Some (next n u) → seq_of (fine u.slot y) < n → door_of x ≡ Opened → s.a ≡ door_of y → IsFit i t u.slot y x (advanced B n s)
fit_b i t u s n x y x_small y_small lx ly is_new greater door door_y =
    let now_held : held u.slot y x ≡ Some (next n u) = ap (λ f. better_at B f (fine u.slot y)) is_new ∙ better-new B (next n u) (fine u.slot y) greater in
    record {
      standing = record {
        seq = sym (ap seq_of now_held);
        held = sym (ap (λ f. which (fine u.slot y) f) is_new ∙ which-new B (next n u) (fine u.slot y) greater);
        door_a = door_y ∙ sym (door_small y y_small);
        door_b = sym (door_small x x_small ∙ door);
      };
      still_a = ly;
      still_b = lx;
    }

fit_at : (area : Area) (told : Told) (i : Images) (t : ℕ) (u : Held) (s : Standing) (n : ℕ) (x y : List ℕ)
    → told (slot_text u.slot) area ≡ Some x → told (slot_text u.slot) (other area) ≡ Some y → Leaves i t (slot_text u.slot) area x → Leaves i t (slot_text u.slot) (other area) y
    → fine u.slot x ≡ Some (next n u) → seq_of (fine u.slot y) < n → door_of x ≡ Opened → side (other area) s.a s.b ≡ door_of y → Fits told i t u.slot (advanced area n s)
fit_at A told i t u s n x y tx ty lx ly is_new greater door door_y a b ta tb la lb =
    let ea : x ≡ a = same_Some x a (sym tx ∙ ta) in
    let eb : y ≡ b = same_Some y b (sym ty ∙ tb) in
    subst (λ z. IsFit i t u.slot z b (advanced A n s)) ea (subst (λ z. IsFit i t u.slot x z (advanced A n s)) eb
    (fit_a i t u s n x y (subst (λ z. length z ≤ 4194304) (sym ea) la) (subst (λ z. length z ≤ 4194304) (sym eb) lb) lx ly is_new greater door door_y))
fit_at B told i t u s n x y tx ty lx ly is_new greater door door_y a b ta tb la lb =
    let ea : y ≡ a = same_Some y a (sym ty ∙ ta) in
    let eb : x ≡ b = same_Some x b (sym tx ∙ tb) in
    subst (λ z. IsFit i t u.slot z b (advanced B n s)) ea (subst (λ z. IsFit i t u.slot y z (advanced B n s)) eb
    (fit_b i t u s n x y (subst (λ z. length z ≤ 4194304) (sym eb) lb) (subst (λ z. length z ≤ 4194304) (sym ea) la) lx ly is_new greater door door_y))

-- What is known of the two areas before the stages, the one that is written first.
record Before (told0 : Told) (i0 : Images) (t0 : ℕ) (u : Held) (s : Standing) (area : Area) (x y : List ℕ) : Type 0 where
  tells : told0 (slot_text u.slot) area ≡ Some x
  tells_other : told0 (slot_text u.slot) (other area) ≡ Some y
  small : length x ≤ 4194304
  leaves : Leaves i0 t0 (slot_text u.slot) area x
  leaves_other : Leaves i0 t0 (slot_text u.slot) (other area) y
  door : side area s.a s.b ≡ door_of x
  door_other : side (other area) s.a s.b ≡ door_of y
  kept : held_at area u.slot x y ≡ fine u.slot y
  greater : seq_of (fine u.slot y) < s.seq + 1

told_other : (area : Area) (told : Told) (slot a b : List ℕ) → told slot A ≡ Some a → told slot B ≡ Some b → told slot (other area) ≡ Some (side area b a)
told_other A told slot a b ta tb = tb
told_other B told slot a b ta tb = ta

door_other : (area : Area) (slot : Slot) (a b : List ℕ) (s : Standing) → IsStanding slot a b s → length a ≤ 4194304 → length b ≤ 4194304 → side (other area) s.a s.b ≡ door_of (side area b a)
door_other A slot a b s is la lb = is.door_b ∙ door_small b lb
door_other B slot a b s is la lb = is.door_a ∙ door_small a la

before_of : (told0 : Told) (i0 : Images) (t0 : ℕ) (u : Held) (s : Standing) (a b : List ℕ) → told0 (slot_text u.slot) A ≡ Some a → told0 (slot_text u.slot) B ≡ Some b → length a ≤ 4194304 → length b ≤ 4194304
    → IsFit i0 t0 u.slot a b s → Before told0 i0 t0 u s (free s.held) (side (free s.held) a b) (side (free s.held) b a)
before_of told0 i0 t0 u s a b ta tb la lb fit =
    let area = free s.held in
    let is_held : held u.slot a b ≡ fine u.slot (side area b a) = side_kept area u.slot a b (ap free fit.standing.held) in
    record {
      tells = side_told area told0 (slot_text u.slot) a b ta tb;
      tells_other = told_other area told0 (slot_text u.slot) a b ta tb;
      small = side_small area a b la lb;
      leaves = side_leaves area i0 t0 (slot_text u.slot) a b fit.still_a fit.still_b;
      leaves_other = other_leaves area i0 t0 (slot_text u.slot) a b fit.still_a fit.still_b;
      door = side_door area u.slot a b s fit.standing la lb;
      door_other = door_other area u.slot a b s fit.standing la lb;
      kept = side_held area u.slot a b ∙ is_held;
      greater = omega (arith, fit.standing.seq, ap seq_of is_held);
    }

before_at : (area : Area) (told0 : Told) (i0 : Images) (t0 : ℕ) (u : Held) (s : Standing) (x y : List ℕ) → area ≡ free s.held → told0 (slot_text u.slot) area ≡ Some x → told0 (slot_text u.slot) (other area) ≡ Some y
    → length x ≤ 4194304 → length y ≤ 4194304 → Fits told0 i0 t0 u.slot s → Before told0 i0 t0 u s area x y
before_at A told0 i0 t0 u s x y is tx ty lx ly fits =
    subst (λ z. Before told0 i0 t0 u s z (side z x y) (side z y x)) (sym is) (before_of told0 i0 t0 u s x y tx ty lx ly (fits x y tx ty lx ly))
before_at B told0 i0 t0 u s x y is tx ty lx ly fits =
    subst (λ z. Before told0 i0 t0 u s z (side z y x) (side z x y)) (sym is) (before_of told0 i0 t0 u s y x ty tx ly lx (fits y x ty tx ly lx))

told_before : (o : Option (List ℕ)) → (o ≡ None → ⊥) → (x : List ℕ) × (o ≡ Some x)
told_before None h = absurd (h refl)
told_before (Some x) h = (x, refl)

door_published : (body x : List ℕ) → door_of (published body x) ≡ Opened
door_published body x = ap door_of (published_form x body)

-- the crash clause, whatever the answer
crash_of : (T : Type 0) (result : Result T PubErr) (r : Result (Unit {0}) PubErr) (told0 told1 : Told) (t0 t1 : ℕ) (i0 i1 : Images) (s : Standing) (u : Held)
    → s.seq + 1 < 2 ^ 64 → IsUnit u → Fits told0 i0 t0 u.slot s
    → Runs told0 told1 t0 t1 i0 i1 (slot_text u.slot) (free s.held) (side (free s.held) s.a s.b) (body_of (s.seq + 1) (text_of u)) r
    → ((x : List ℕ) → told0 (slot_text u.slot) (free s.held) ≡ Some x → side (free s.held) s.a s.b ≡ door_of x → OnOk result (Leaves i1 t1 (slot_text u.slot) (free s.held) (published (body_of (s.seq + 1) (text_of u)) x)))
    → ((k : ℕ) → result ≡ Err (ShelfFault k) → r ≡ Err (ShelfFault k))
    → ForBoth told0 u.slot (λ a b. Publishes i1 t0 t1 u.slot (held u.slot a b) (Some (next (s.seq + 1) u)) result)
crash_of T result r told0 told1 t0 t1 i0 i1 s u range fits_text fits runs ends same a b ta tb la lb =
    let area = free s.held in
    let bef = before_of told0 i0 t0 u s a b ta tb la lb (fits a b ta tb la lb) in
    subst (λ q. Publishes i1 t0 t1 u.slot q (Some (next (s.seq + 1) u)) result) (side_held area u.slot a b)
    (publishes_at result r t0 t1 i0 i1 u.slot area (side area a b) (side area b a) (body_of (s.seq + 1) (text_of u)) (next (s.seq + 1) u)
    runs.passes (runs.crash (side area a b) bef.tells bef.door bef.leaves) bef.leaves_other bef.kept
    (reads u (s.seq + 1) (side area a b) range fits_text bef.small) bef.greater (ends (side area a b) bef.tells bef.door) same)

err_ends : (T : Type 0) (e : PubErr) (now : Option (List ℕ)) (door : Door) (body found : List ℕ) → Ends (failed {T = Unit {0}} e) now door body found → Ends (failed {T = T} e) now door body found
err_ends T (ShelfFault k) now door body found h = h
err_ends T Memory now door body found h = h
err_ends T WornOut now door body found h = h

abbrev error_in : {T : Type 0} → Result T PubErr → PubErr
error_in (Ok x) = Memory
error_in (Err e) = e

pub publication_broken : (T : Type 0) (e : PubErr) (told0 told1 : Told) (t0 t1 : ℕ) (i0 i1 : Images) (s : Standing) (u : Held)
    → s.seq + 1 < 2 ^ 64 → IsUnit u → Fits told0 i0 t0 u.slot s
    → Runs told0 told1 t0 t1 i0 i1 (slot_text u.slot) (free s.held) (side (free s.held) s.a s.b) (body_of (s.seq + 1) (text_of u)) (failed e)
    → Publication told0 told1 t0 t1 i0 i1 s s u (failed {T = T} e)
publication_broken T e told0 told1 t0 t1 i0 i1 s u range fits_text fits runs = record {
  passes = runs.passes;
  longer = runs.longer;
  crash = crash_of T (failed e) (failed e) told0 told1 t0 t1 i0 i1 s u range fits_text fits runs (λ x tx door. tt) (λ k is. ap (λ z. failed z) (ap error_in is));
  now = tt;
  fits = tt;
}

now_at : (area : Area) (told : Told) (u : Held) (x y : List ℕ) (n : Edition) → told (slot_text u.slot) area ≡ Some x → told (slot_text u.slot) (other area) ≡ Some y → length x ≤ 4194304 → length y ≤ 4194304
    → held_at area u.slot x y ≡ Some n → NowHolds told u.slot (Some n)
now_at A told u x y n tx ty lx ly is = record { first = x; second = y; tells_a = tx; tells_b = ty; small_a = lx; small_b = ly; holds = is }
now_at B told u x y n tx ty lx ly is = record { first = y; second = x; tells_a = ty; tells_b = tx; small_a = ly; small_b = lx; holds = is }

small_published : (u : Held) (seq : ℕ) (x : List ℕ) → IsUnit u → length x ≤ 4194304 → length (published (body_of seq (text_of u)) x) ≤ 4194304
small_published u seq x is within = omega (arith, length-published (body_of seq (text_of u)) x, length-body seq (text_of u), text_small u is, within)

pub publication_done : (told0 told1 : Told) (t0 t1 : ℕ) (i0 i1 : Images) (s : Standing) (u : Held)
    → s.seq + 1 < 2 ^ 64 → IsUnit u → Fits told0 i0 t0 u.slot s
    → Runs told0 told1 t0 t1 i0 i1 (slot_text u.slot) (free s.held) (side (free s.held) s.a s.b) (body_of (s.seq + 1) (text_of u)) (Ok tt)
    → Publication {T = ℕ} told0 told1 t0 t1 i0 i1 s (advanced (free s.held) (s.seq + 1) s) u (Ok 3)
publication_done told0 told1 t0 t1 i0 i1 s u range fits_text fits runs =
    let area = free s.held in
    let body = body_of (s.seq + 1) (text_of u) in
    let ends : (x : List ℕ) → told0 (slot_text u.slot) area ≡ Some x → side area s.a s.b ≡ door_of x → Leaves i1 t1 (slot_text u.slot) area (published body x) =
    λ x tx door. runs.settled (published body x) (runs.told x tx) in
    record {
      passes = runs.passes;
      longer = runs.longer;
      crash = crash_of ℕ (Ok 3) (Ok tt) told0 told1 t0 t1 i0 i1 s u range fits_text fits runs ends (λ k is. absurd (grind (arith, is)));
      now = λ a b ta tb la lb.
          let bef = before_of told0 i0 t0 u s a b ta tb la lb (fits a b ta tb la lb) in
          now_at area told1 u (published body (side area a b)) (side area b a) (next (s.seq + 1) u) (runs.told (side area a b) bef.tells)
          (runs.others (slot_text u.slot) (other area) (inr (apart area)) ∙ bef.tells_other) (small_published u (s.seq + 1) (side area a b) fits_text bef.small) (side_small area b a lb la)
          (whole_holds area u.slot (side area a b) (side area b a) body (published body (side area a b)) (next (s.seq + 1) u) (reads u (s.seq + 1) (side area a b) range fits_text bef.small) bef.greater refl);
      fits = λ a b ta tb la lb.
          let tx1 : told1 (slot_text u.slot) area ≡ Some (side area a b) = side_told area told1 (slot_text u.slot) a b ta tb in
          let ty1 : told1 (slot_text u.slot) (other area) ≡ Some (side area b a) = told_other area told1 (slot_text u.slot) a b ta tb in
          let ty0 : told0 (slot_text u.slot) (other area) ≡ Some (side area b a) = sym (runs.others (slot_text u.slot) (other area) (inr (apart area))) ∙ ty1 in
          let (x, tx0) = told_before (told0 (slot_text u.slot) area) (λ none. none-some (side area a b) (sym (runs.silent none) ∙ tx1)) in
          let (after, is_after, le) = runs.longer x tx0 in
          let e_after : after ≡ side area a b = same_Some after (side area a b) (sym is_after ∙ tx1) in
          let bef = before_at area told0 i0 t0 u s x (side area b a) refl tx0 ty0
          (omega (arith, le, ap (λ (z : List ℕ). length z) e_after, side_small area a b la lb)) (side_small area b a lb la) fits in
          fit_at area told1 i1 t1 u s (s.seq + 1) (published body x) (side area b a) (runs.told x tx0) ty1 (ends x tx0 bef.door)
          (λ d h. still_other t0 t1 i0 i1 u.slot area (side area b a) runs.passes (apart area) bef.leaves_other t1 d runs.passes.later (omega arith) h)
          (reads u (s.seq + 1) x range fits_text bef.small) bef.greater (door_published body x) bef.door_other a b ta tb la lb;
    }

-- an error that `?` hands on
pub came : {T : Type 0} (r : Result T PubErr) (e : PubErr) → IsErr r × IsErrAnd r (λ x. x ≡ e) → r ≡ Err e
came (Ok u) e h = absurd h.1
came (Err x) e h = ap (λ z. failed z) h.1

runs_as : (told0 told1 : Told) (t0 t1 : ℕ) (i0 i1 : Images) (s : Standing) (u : Held) (name : List ℕ) (area : Area) (door : Door) (body : List ℕ) (r : Result (Unit {0}) PubErr)
    → name ≡ slot_text u.slot → area ≡ free s.held → door ≡ side area s.a s.b → body ≡ body_of (s.seq + 1) (text_of u)
    → Runs told0 told1 t0 t1 i0 i1 name area door body r
    → Runs told0 told1 t0 t1 i0 i1 (slot_text u.slot) (free s.held) (side (free s.held) s.a s.b) (body_of (s.seq + 1) (text_of u)) r
runs_as told0 told1 t0 t1 i0 i1 s u name area door body r e_name e_area e_door e_body runs =
    subst (λ z. Runs told0 told1 t0 t1 i0 i1 (slot_text u.slot) (free s.held) (side (free s.held) s.a s.b) z r) e_body
    (subst (λ z. Runs told0 told1 t0 t1 i0 i1 (slot_text u.slot) (free s.held) z body r) (e_door ∙ ap (λ z. side z s.a s.b) e_area)
    (subst (λ z. Runs told0 told1 t0 t1 i0 i1 (slot_text u.slot) z door body r) e_area (subst (λ z. Runs told0 told1 t0 t1 i0 i1 z area door body r) e_name runs)))

-- what is left of the areas
rewrites_by : (T : Type 0) (result : Result T PubErr) (r : Result (Unit {0}) PubErr) (told0 told1 : Told) (t0 t1 : ℕ) (i0 i1 : Images) (s : Standing) (u : Held)
    → ((now : Option (List ℕ)) (door : Door) (body found : List ℕ) → Ends r now door body found → Ends result now door body found)
    → Runs told0 told1 t0 t1 i0 i1 (slot_text u.slot) (free s.held) (free_door s) (body_of (s.seq + 1) (text_of u)) r → Rewrites told0 told1 u s result
rewrites_by T result r told0 told1 t0 t1 i0 i1 s u ends runs = record {
  others = runs.others;
  silent = runs.silent;
  this = λ found h. ends _ _ _ found (runs.told found h);
}

pub rewrite_refused : (result : Result ℕ PubErr) → result ≡ Err Memory → (told : Told) (s : Standing) (u : Held) → Rewrites told told u s result
rewrite_refused result is told s u = subst (λ r. Rewrites told told u s r) (sym is) (rewrites_nothing ℕ Memory (inr refl) told s u)

pub rewrite_worn : (told : Told) (s : Standing) (u : Held) → Rewrites {T = ℕ} told told u s (Err WornOut)
rewrite_worn told s u = rewrites_nothing ℕ WornOut (inl refl) told s u

pub rewrite_broke : (result : Result ℕ PubErr) (e : PubErr) → result ≡ Err e → (told0 told1 : Told) (t0 t1 : ℕ) (i0 i1 : Images) (s : Standing) (u : Held) (name : List ℕ) (area : Area) (door : Door) (body : List ℕ)
    → name ≡ slot_text u.slot → area ≡ free s.held → door ≡ side area s.a s.b → body ≡ body_of (s.seq + 1) (text_of u)
    → Runs told0 told1 t0 t1 i0 i1 name area door body (Err e) → Rewrites told0 told1 u s result
rewrite_broke result e is told0 told1 t0 t1 i0 i1 s u name area door body e_name e_area e_door e_body runs =
    subst (λ r. Rewrites told0 told1 u s r) (sym is)
    (rewrites_by ℕ (Err e) (Err e) told0 told1 t0 t1 i0 i1 s u (λ now d b found h. err_ends ℕ e now d b found h) (runs_as told0 told1 t0 t1 i0 i1 s u name area door body (Err e) e_name e_area e_door e_body runs))

pub rewrite_went : (told0 told1 : Told) (t0 t1 : ℕ) (i0 i1 : Images) (s : Standing) (u : Held) (name : List ℕ) (area : Area) (door : Door) (body : List ℕ)
    → name ≡ slot_text u.slot → area ≡ free s.held → door ≡ side area s.a s.b → body ≡ body_of (s.seq + 1) (text_of u)
    → Runs told0 told1 t0 t1 i0 i1 name area door body (Ok tt) → Rewrites {T = ℕ} told0 told1 u s (Ok 3)
rewrite_went told0 told1 t0 t1 i0 i1 s u name area door body e_name e_area e_door e_body runs =
    rewrites_by ℕ (Ok 3) (Ok tt) told0 told1 t0 t1 i0 i1 s u (λ now d b found h. h) (runs_as told0 told1 t0 t1 i0 i1 s u name area door body (Ok tt) e_name e_area e_door e_body runs)

pub publish_refused : (result : Result ℕ PubErr) → result ≡ Err Memory → (told : Told) (t : ℕ) (i : Images) (s : Standing) (u : Held) → Fits told i t u.slot s
    → Publication told told t t i i s s u result
publish_refused result is told t i s u fits =
    subst (λ r. Publication told told t t i i s s u r) (sym is) (publishes_nothing ℕ Memory (inr refl) told t i s u fits)

pub publish_worn : (told : Told) (t : ℕ) (i : Images) (s : Standing) (u : Held) → Fits told i t u.slot s → Publication {T = ℕ} told told t t i i s s u (Err WornOut)
publish_worn told t i s u fits = publishes_nothing ℕ WornOut (inl refl) told t i s u fits

pub publish_broke : (result : Result ℕ PubErr) (e : PubErr) → result ≡ Err e → (told0 told1 : Told) (t0 t1 : ℕ) (i0 i1 : Images) (s : Standing) (u : Held) (name : List ℕ) (area : Area) (door : Door) (body : List ℕ)
    → name ≡ slot_text u.slot → area ≡ free s.held → door ≡ side area s.a s.b → body ≡ body_of (s.seq + 1) (text_of u)
    → s.seq + 1 < 2 ^ 64 → IsUnit u → Fits told0 i0 t0 u.slot s
    → Runs told0 told1 t0 t1 i0 i1 name area door body (Err e) → Publication told0 told1 t0 t1 i0 i1 s s u result
publish_broke result e is told0 told1 t0 t1 i0 i1 s u name area door body e_name e_area e_door e_body range fits_text fits runs =
    subst (λ r. Publication told0 told1 t0 t1 i0 i1 s s u r) (sym is)
    (publication_broken ℕ e told0 told1 t0 t1 i0 i1 s u range fits_text fits (runs_as told0 told1 t0 t1 i0 i1 s u name area door body (Err e) e_name e_area e_door e_body runs))

pub publish_went : (told0 told1 : Told) (t0 t1 : ℕ) (i0 i1 : Images) (s s1 : Standing) (u : Held) (name : List ℕ) (area : Area) (door : Door) (body : List ℕ)
    → name ≡ slot_text u.slot → area ≡ free s.held → door ≡ side area s.a s.b → body ≡ body_of (s.seq + 1) (text_of u) → s1 ≡ advanced area (s.seq + 1) s
    → s.seq + 1 < 2 ^ 64 → IsUnit u → Fits told0 i0 t0 u.slot s
    → Runs told0 told1 t0 t1 i0 i1 name area door body (Ok tt) → Publication {T = ℕ} told0 told1 t0 t1 i0 i1 s s1 u (Ok 3)
publish_went told0 told1 t0 t1 i0 i1 s s1 u name area door body e_name e_area e_door e_body e_s1 range fits_text fits runs =
    subst (λ z. Publication {T = ℕ} told0 told1 t0 t1 i0 i1 s z u (Ok 3)) (sym (e_s1 ∙ ap (λ z. advanced z (s.seq + 1) s) e_area))
    (publication_done told0 told1 t0 t1 i0 i1 s u range fits_text fits (runs_as told0 told1 t0 t1 i0 i1 s u name area door body (Ok tt) e_name e_area e_door e_body runs))
