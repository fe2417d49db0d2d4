-- What a load finds.
use Rattle.std.proofs.Common.{◌≡◌, ℕ, suc, ◌<◌, ◌≤◌, List, length, replicate, true, false, nat_lt, None, Some, Option, refl, ap, sym, subst, ◌∙◌, arith}
use Rattle.std.proofs.lemmas.Bool.Decides.{nat_tests}
use Rattle.std.proofs.lemmas.List.{length-replicate}
use Rattle.std.proofs.lemmas.Option.{same_Some}
use Rattle.shelf_model.specs.declared.shelf.Area.{Area}
use Rattle.shelf_model.specs.declared.shelf.Area.TheVariants.{A, B}
use Rattle.shelf_model.specs.Shelf.{Told, Images, Leaves, Rests, TellsSame, WhereTold}
use Rattle.shelf_model.proofs.Moments.{then_rests, still_leaves}
use Rattle.unit_set.specs.Slot.{Slot, slot_text}
use Rattle.publish.specs.declared.area.Reading.TheVariants.{Refused}
use Rattle.publish.specs.declared.area.Verdict.TheVariants.{TooLong}
use Rattle.publish.specs.declared.area.Door.TheVariants.{Opened}
use Rattle.publish.specs.declared.loading.Looked.{Looked}
use Rattle.publish.specs.declared.loading.Found.{Found}
use Rattle.publish.specs.Area.{Edition, which, chosen, better, door_in, door_of, seq_of, unit_of}
use Rattle.publish.specs.Verdict.{IsVerdict, fine}
use Rattle.publish.specs.Crash.{Fits}
use Rattle.publish.specs.Load.{IsFound, FindsAll}
use Rattle.publish.specs.Looking.{edition_in, IsReading, IsSeen, Sees, IsFoundOf}
use Rattle.publish.proofs.Readings.{read_long}

-- ---- one area

door_small : (x : List ℕ) → length x ≤ 4194304 → door_in x ≡ door_of x
door_small x h = let no : nat_lt 4194304 (length x) ≡ false = grind (arith, nat_tests, h) in rw no refl

pub sees_bytes : (told : Told) (slot : Slot) (name : List ℕ) (area : Area) (bytes : List ℕ) (l : Looked) → name ≡ slot_text slot → WhereTold (told name area) (λ found. bytes ≡ found)
    → length bytes ≤ 4194304 → IsReading slot bytes l.reading → l.door ≡ door_of bytes → Sees told slot area l
sees_bytes told slot name area bytes l is tells small reads door = record {
  bytes = bytes;
  agrees = λ found h. sym (tells found (ap (λ n. told n area) is ∙ h));
  seen = record { reading = reads; door = door ∙ sym (door_small bytes small) };
}

seen_long : (slot : Slot) (bytes : List ℕ) → 4194304 < length bytes → IsSeen slot bytes (record { reading = Refused TooLong; door = Opened })
seen_long slot bytes long =
    let test : nat_lt 4194304 (length bytes) ≡ true = grind (arith, nat_tests, long) in
    record { reading = read_long slot bytes long; door = rw test refl }

-- some bytes over a limit
some_long : (n : ℕ) → (bytes : List ℕ) × (n < length bytes)
some_long n = let xs : List ℕ = replicate (suc n) 0 in let is : length xs ≡ suc n = length-replicate (suc n) 0 in (xs, omega (arith, is))

long_by : (told : Told) (slot : Slot) (area : Area) (o : Option (List ℕ)) → told (slot_text slot) area ≡ o → WhereTold o (λ bytes. 4194304 < length bytes)
    → Sees told slot area (record { reading = Refused TooLong; door = Opened })
long_by told slot area None is long =
    let (bytes, is_long) = some_long 4194304 in
    record { bytes = bytes; agrees = λ found h. let e : None ≡ Some found = sym is ∙ h in absurd cc; seen = seen_long slot bytes is_long }
long_by told slot area (Some bytes) is long = record { bytes = bytes; agrees = λ found h. same_Some found bytes (sym h ∙ is); seen = seen_long slot bytes (long bytes refl) }

pub sees_long : (told : Told) (slot : Slot) (name : List ℕ) (area : Area) → name ≡ slot_text slot → WhereTold (told name area) (λ bytes. 4194304 < length bytes)
    → Sees told slot area (record { reading = Refused TooLong; door = Opened })
sees_long told slot name area is long = long_by told slot area (told (slot_text slot) area) refl (subst (λ n. WhereTold (told n area) (λ bytes. 4194304 < length bytes)) is long)

-- ---- both

found_is : (slot : Slot) (x y : List ℕ) (first second : Looked) (f : Found) → IsSeen slot x first → IsSeen slot y second → IsFoundOf first second f → IsFound slot x y f
found_is slot x y first second f sx sy is =
    let p = sx.reading.edition in
    let q = sy.reading.edition in
    record {
      a = subst (IsVerdict slot x) (sym is.a) sx.reading.verdict;
      b = subst (IsVerdict slot y) (sym is.b) sy.reading.verdict;
      unit = is.unit ∙ sym (ap (λ r. unit_of (better r (fine slot y))) p ∙ ap (λ r. unit_of (better (edition_in first.reading) r)) q);
      standing = record {
        seq = is.seq ∙ sym (ap (λ r. seq_of (better r (fine slot y))) p ∙ ap (λ r. seq_of (better (edition_in first.reading) r)) q);
        held = is.held ∙ sym (ap (λ r. which r (fine slot y)) p ∙ ap (λ r. which (edition_in first.reading) r) q);
        door_a = is.door_a ∙ sx.door;
        door_b = is.door_b ∙ sy.door;
      };
    }

sees_before : (told0 told1 : Told) (slot : Slot) (area : Area) (l : Looked) → TellsSame told0 told1 → Sees told1 slot area l → Sees told0 slot area l
sees_before told0 told1 slot area l same sees = record { bytes = sees.bytes; agrees = λ found h. sees.agrees found (same (slot_text slot) area ∙ h); seen = sees.seen }

then_same : (told0 told1 told2 : Told) → TellsSame told0 told1 → TellsSame told1 told2 → TellsSame told0 told2
then_same told0 told1 told2 first second n b = second n b ∙ first n b

pub load_finds : (told0 told1 told2 told3 : Told) (slot : Slot) (first second : Looked) (f : Found) → TellsSame told0 told1 → TellsSame told1 told2 → Sees told2 slot A first
    → TellsSame told2 told3 → Sees told3 slot B second → IsFoundOf first second f → FindsAll told0 slot f
load_finds told0 told1 told2 told3 slot first second f same1 same2 sees_a same3 sees_b is =
    let at_start_a = sees_before told0 told2 slot A first (then_same told0 told1 told2 same1 same2) sees_a in
    let at_start_b = sees_before told0 told3 slot B second (then_same told0 told2 told3 (then_same told0 told1 told2 same1 same2) same3) sees_b in
    record {
      first = at_start_a.bytes;
      second = at_start_b.bytes;
      agrees_a = at_start_a.agrees;
      agrees_b = at_start_b.agrees;
      found = found_is slot at_start_a.bytes at_start_b.bytes first second f at_start_a.seen at_start_b.seen is;
    }

-- nothing is held at seq 0
pub seq_unheld : (a b : Option Edition) (seq : ℕ) (held : Option Area) → held ≡ which a b → seq ≡ seq_of (better a b) → held ≡ None → seq ≡ 0
seq_unheld a b seq held is_held is h = is ∙ ap (λ w. seq_of (chosen w a b)) (sym is_held ∙ h)

still_settled : (told0 told1 : Told) (t0 t1 : ℕ) (i0 i1 : Images) (name : List ℕ) (area : Area) → TellsSame told0 told1 → Rests t0 t1 i0 i1
    → WhereTold (told0 name area) (Leaves i0 t0 name area) → WhereTold (told1 name area) (Leaves i1 t1 name area)
still_settled told0 told1 t0 t1 i0 i1 name area same rests leaves bytes h = still_leaves t0 t1 i0 i1 name area bytes rests (leaves bytes (sym (same name area) ∙ h))

seen_told : (told : Told) (slot : Slot) (area : Area) (l : Looked) (bytes : List ℕ) → Sees told slot area l → told (slot_text slot) area ≡ Some bytes → IsSeen slot bytes l
seen_told told slot area l bytes sees h = subst (λ x. IsSeen slot x l) (sym (sees.agrees bytes h)) sees.seen

-- sync A, sync B, look at A, look at B
pub load_fits : (told1 told2 told3 told4 : Told) (t1 t2 t3 t4 : ℕ) (i1 i2 i3 i4 : Images) (slot : Slot) (name1 name2 : List ℕ) (first second : Looked) (f : Found)
    → name1 ≡ slot_text slot → name2 ≡ slot_text slot
    → WhereTold (told1 name1 A) (Leaves i1 t1 name1 A) → TellsSame told1 told2 → Rests t1 t2 i1 i2 → WhereTold (told2 name2 B) (Leaves i2 t2 name2 B)
    → TellsSame told2 told3 → Rests t2 t3 i2 i3 → Sees told2 slot A first → TellsSame told3 told4 → Rests t3 t4 i3 i4 → Sees told3 slot B second
    → IsFoundOf first second f → Fits told4 i4 t4 slot f.standing
load_fits told1 told2 told3 told4 t1 t2 t3 t4 i1 i2 i3 i4 slot name1 name2 first second f e1 e2 set_a same2 rest2 set_b same3 rest3 sees_a same4 rest4 sees_b is a b ta tb la lb =
    let name = slot_text slot in
    let set_a' = subst (λ n. WhereTold (told1 n A) (Leaves i1 t1 n A)) e1 set_a in
    let set_b' = subst (λ n. WhereTold (told2 n B) (Leaves i2 t2 n B)) e2 set_b in
    let rest24 = then_rests t2 t3 t4 i2 i3 i4 rest3 rest4 in
    let same24 = then_same told2 told3 told4 same3 same4 in
    let seen_a = seen_told told2 slot A first a sees_a (sym (same24 name A) ∙ ta) in
    let seen_b = seen_told told3 slot B second b sees_b (sym (same4 name B) ∙ tb) in
    record {
      standing = (found_is slot a b first second f seen_a seen_b is).standing;
      still_a = still_settled told1 told4 t1 t4 i1 i4 name A (then_same told1 told2 told4 same2 same24) (then_rests t1 t2 t4 i1 i2 i4 rest2 rest24) set_a' a ta;
      still_b = still_settled told2 told4 t2 t4 i2 i4 name B same24 rest24 set_b' b tb;
    }
