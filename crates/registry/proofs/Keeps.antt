-- What each entry keeps.
use Rattle.std.proofs.Common.{◌≡◌, ℕ, zero, suc, ◌+◌, ◌-◌, ◌<◌, ◌≤◌, ◌==◌, ◌&&◌, ◌||◌, Bool, true, false, cond, not, nat_lt, lt-ltb, if◌then◌else◌, List, [], ◌∷◌, ◌++◌, length, refl, sym, ap, ◌∙◌, subst, arith, set, get_or, slice_get, Option, Some, None, count_by, sum_by, eq-eqb, eqb-true, ne_eqb, position}
use Rattle.std.specs.Prelude.{unwrap_or}
use Rattle.std.specs.List.{AllByRecursion, list_any, prefix_len}
use Rattle.std.specs.Str.{bytes_eq}
use Rattle.std.proofs.lemmas.Slice.Eq.{bytes_eq-Decides}
use Rattle.std.proofs.lemmas.List.Folds.{list_any-append}
use Rattle.registry.specs.Content.{Content, same_code, union}
use Rattle.registry.proofs.Units.{union_grows}
use mathlib.Core.Logic.{dite}
use native.Mathlib.Decide.{ℕ_discrete}
use Rattle.std.proofs.lemmas.Bool.Decides.{nat_tests}
use Rattle.std.proofs.lemmas.Bool.{and_parts}
use Rattle.std.proofs.lemmas.List.{length-append}
use Rattle.std.proofs.lemmas.List.Sums.{sum_by-append, sum_by-set, count_by-le-length}
use Rattle.std.proofs.lemmas.List.Quantifiers.{position-Some}
use Rattle.cc_base.specs.Image.{Code}
use Rattle.registry.specs.declared.entry.Entry.{Entry}
use Rattle.registry.specs.declared.entry.Entry.TheVariants.{Map, Replace, Attach, Merge, Detach, Due, Acked, Failed, Finish}
use Rattle.registry.specs.declared.entry.Replaced.{Replaced}
use Rattle.registry.specs.declared.entry.Merged.{Merged}
use Rattle.unit_set.specs.Slot.{Slot}
use Rattle.registry.specs.Opening.{Opening, image_at, empty_at, slot_at, no_slot}
use Rattle.registry.specs.State.{State, SlotState, Generation, first_due, with_at}
use Rattle.registry.specs.Registry.{opened, after, after_all, due_entry, merge_reply, replaced_by, IsReplied, AreReplied, attaches_generation, generation_in, generation_of, slot_in, no_generation, no_state, one_more, one_less, new_generation, has_image, age_of, attach_age, attach_generation, held, held_at, attached, with_generation, published_as, shut_now, files_after, slot_opened, slots_opened, is_over, version_after, merged}
use Rattle.registry.specs.History.{IsKept, IsHeld, IsOpening, passing, has_file, AreFew, is_attach, is_detach, is_due, is_answer, owed_by, owed_of, IsVersioned, AreVersioned, IsNamed, AreNamed, AreFound}
use Rattle.registry.proofs.Lists.{set_is, all_nth}
use Rattle.registry.proofs.Places.{nth-with_same, nth-with_other, length-with_at}
use Rattle.std.proofs.lemmas.List.{get_or_default}
use Rattle.std.proofs.lemmas.Option.{unwrap_or-slice_get}

abbrev pub one : Bool → ℕ
one b = cond b 1 0

pub after-snoc : (o : Opening) (s : State) (es : List Entry) (e : Entry) → after_all o s (es ++ e ∷ []) ≡ after o (after_all o s es) e
after-snoc o s [] e = refl
after-snoc o s (x ∷ es) e = after-snoc o (after o s x) es e

pub replied-snoc : (o : Opening) (s : State) (es : List Entry) (e : Entry) → AreReplied o s es → IsReplied o (after_all o s es) e → AreReplied o s (es ++ e ∷ [])
replied-snoc o s [] e all here = (here, tt)
replied-snoc o s (x ∷ es) e all here = (all.0, replied-snoc o (after o s x) es e all.1 here)

count-snoc : (p : Entry → Bool) (es : List Entry) (e : Entry) → count_by p (es ++ e ∷ []) ≡ count_by p es + one (p e)
count-snoc p es e = sum_by-append (λ x. cond (p x) 1 0) es (e ∷ []) ∙ ap (λ n. count_by p es + n) (omega arith)

-- ---- how many generations there are

pub passing_le : (p : ℕ → Bool) (n : ℕ) → passing p n ≤ n
passing_le p zero = omega arith
passing_le p (suc n) = omega (arith, passing_le p n, one_le (p n)) where
  one_le : (b : Bool) → (if b then 1 else 0) ≤ 1
  one_le true = omega arith
  one_le false = omega arith

one_more_or : (b c : Bool) → (b ≡ true → c ≡ true) → (if b then 1 else 0) ≤ (if c then 1 else 0)
one_more_or true c h = rw (h refl) (omega arith)
one_more_or false true h = omega arith
one_more_or false false h = omega arith

passing_more : (p q : ℕ → Bool) (n : ℕ) → ((f : ℕ) → p f ≡ true → q f ≡ true) → passing p n ≤ passing q n
passing_more p q zero h = omega arith
passing_more p q (suc n) h = omega (arith, passing_more p q n h, one_more_or (p n) (q n) (h n))

passing_one : (p q : ℕ → Bool) (n i : ℕ) → i < n → ((f : ℕ) → p f ≡ true → q f ≡ true) → p i ≡ false → q i ≡ true → passing p n + 1 ≤ passing q n
passing_one p q zero i within h out into = absurd (omega arith)
passing_one p q (suc n) i within h out into = dite (ℕ_discrete i n)
    (λ e. omega (arith, ap one (subst (λ k. p k ≡ false) e out), ap one (subst (λ k. q k ≡ true) e into), passing_more p q n h))
    (λ ne. omega (arith, passing_one p q n i (less i n within ne) h out into, one_more_or (p n) (q n) (h n)))
  where
    less : (i n : ℕ) → i < suc n → (i ≡ n → ⊥) → i < n
    less i n a b = grind (arith, nat_tests)

pub any_with : {A : Type 0} (p : A → Bool) (f : A → A) → ((x : A) → p (f x) ≡ p x) → (xs : List A) (k : ℕ) → list_any p (with_at f k xs) ≡ list_any p xs
any_with p f h [] k = refl
any_with p f h (x ∷ xs) zero = ap (λ b. b || list_any p xs) (h x)
any_with p f h (x ∷ xs) (suc k) = ap (λ b. p x || b) (any_with p f h xs k)

passing_same : (p q : ℕ → Bool) (n : ℕ) → ((f : ℕ) → p f ≡ q f) → passing p n ≡ passing q n
passing_same p q zero h = refl
passing_same p q (suc n) h = ap (λ b. (if b then 1 else 0) + passing p n) (h n) ∙ ap (λ m. (if q n then 1 else 0) + m) (passing_same p q n h)

pub few_same : (o : Opening) (slot : ℕ) (gs hs : List Generation) → length hs ≡ length gs → ((image : Code) → list_any (has_image image) hs ≡ list_any (has_image image) gs)
    → length gs ≤ 1 + passing (has_file o slot gs) (length o.codes) → length hs ≤ 1 + passing (has_file o slot hs) (length o.codes)
few_same o slot gs hs long same few = omega (arith, long, few, passing_same (has_file o slot hs) (has_file o slot gs) (length o.codes) (λ f. same (image_at o slot f)))

pub few_with : (o : Opening) (ss : List SlotState) (k : ℕ) (f : SlotState → SlotState) → k < length ss → AreFew o ss
    → length (f (slot_in ss k)).generations ≤ 1 + passing (has_file o k (f (slot_in ss k)).generations) (length o.codes) → AreFew o (with_at f k ss)
few_with o ss k f within few here slot = dite (ℕ_discrete slot k)
    (λ e. subst (λ j. length (slot_in (with_at f k ss) j).generations ≤ 1 + passing (has_file o j (slot_in (with_at f k ss) j).generations) (length o.codes)) (sym e)
    (subst (λ (x : SlotState). length x.generations ≤ 1 + passing (has_file o k x.generations) (length o.codes)) (sym (nth-with_same f ss k no_state within)) here))
    (λ n. subst (λ (x : SlotState). length x.generations ≤ 1 + passing (has_file o slot x.generations) (length o.codes)) (sym (nth-with_other f ss k slot no_state n)) (few slot))

or_left : (a b : Bool) → a ≡ true → (a || b) ≡ true
or_left a b e = ap (λ x. x || b) e

or_right : (a b : Bool) → b ≡ true → (a || b) ≡ true
or_right true b e = refl
or_right false b e = e

same_self : (image : Code) → same_code image image ≡ true
same_self image = ap (λ b. b && bytes_eq image.bytes image.bytes) (eq-eqb image.start image.start refl) ∙ (bytes_eq-Decides image.bytes image.bytes).1 refl

place_by : (b others : Bool) (n len : ℕ) → (b || others) ≡ true → (others ≡ true → n < len) → cond (not b) (1 + n) 0 < suc len
place_by true others n len h below = omega arith
place_by false others n len h below = omega (arith, below h)

any_place : {A : Type 0} (p : A → Bool) (xs : List A) → list_any p xs ≡ true → prefix_len (λ x. not (p x)) xs < length xs
any_place p [] h = absurd (cc)
any_place p (x ∷ xs) h = place_by (p x) (list_any p xs) (prefix_len (λ y. not (p y)) xs) (length xs) h (any_place p xs)

none_by : (found : Bool) (n len : ℕ) → (found ≡ true → n < len) → cond (nat_lt n len) (Some n) None ≡ None → found ≡ false
none_by false n len below is = refl
none_by true n len below is =
    let gone : Some n ≡ None = ap (λ b. cond b (Some n) None) (sym (lt-ltb n len (below refl))) ∙ is in
    absurd (cc)

-- where no place passes, none does
none_any : {A : Type 0} (p : A → Bool) (xs : List A) → position p xs ≡ None → list_any p xs ≡ false
none_any p xs is = none_by (list_any p xs) (prefix_len (λ x. not (p x)) xs) (length xs) (any_place p xs) is

held_few : (o : Opening) (slot file : ℕ) (gs : List Generation) (place : Option ℕ) → age_of (image_at o slot file) gs ≡ place → file < length o.codes
    → length gs ≤ 1 + passing (has_file o slot gs) (length o.codes) → length (held_at (empty_at o slot file) gs place) ≤ 1 + passing (has_file o slot (held_at (empty_at o slot file) gs place)) (length o.codes)
held_few o slot file gs (Some age) is below few = few_same o slot gs _ (length-with_at one_more gs age) (λ image. any_with (has_image image) one_more (λ g. refl) gs age) few
held_few o slot file gs None is below few =
    let new = new_generation (empty_at o slot file) in
    let more = passing_one (has_file o slot gs) (has_file o slot (gs ++ new ∷ [])) (length o.codes) file below
    (λ f h. list_any-append (has_image (image_at o slot f)) gs (new ∷ []) ∙ or_left _ _ h) (none_any _ gs is)
    (list_any-append (has_image (image_at o slot file)) gs (new ∷ []) ∙ or_right _ _ (or_left _ _ (same_self (image_at o slot file)))) in
    omega (arith, more, few, length-append gs (new ∷ []))

-- ---- the generation that is attached has the image

same_code_is : (a b : Code) → same_code a b ≡ true → a ≡ b
same_code_is a b h =
    let parts = and_parts _ _ h in
    let start = eqb-true a.start b.start parts.0 in
    let bytes = (bytes_eq-Decides a.bytes b.bytes).0 parts.1 in
    ap (λ (n : ℕ). record { start = n; bytes = a.bytes }) start ∙ ap (λ (xs : List ℕ). record { start = b.start; bytes = xs }) bytes

pub attach_image : (u : Content) (gs : List Generation) (place : Option ℕ) → age_of u.image gs ≡ place → (attach_generation u gs place).unit.image ≡ u.image
attach_image u gs None is = refl
attach_image u gs (Some age) is =
    same_code_is _ u.image (ap (has_image u.image) (unwrap_or-slice_get gs age no_generation) ∙ (position-Some _ gs age no_generation is).1)

-- and the name of the slot
pub attach_slot : (u : Content) (gs : List Generation) (place : Option ℕ) → age_of u.image gs ≡ place → AllByRecursion (IsNamed u.slot) gs → (attach_generation u gs place).unit.slot ≡ u.slot
attach_slot u gs None is all = refl
attach_slot u gs (Some age) is all = all_nth (IsNamed u.slot) gs age no_generation all (position-Some _ gs age no_generation is).0

-- ---- an entry more, in general

pub kept : (o : Opening) (j j' : List Entry) (s s' : State) (owed owed' room room' : ℕ) (e : Entry) → IsKept o j s owed room
    → j' ≡ j ++ e ∷ [] → IsReplied o s e → s' ≡ after o s e
    → ((slot age : ℕ) → (generation_of s' slot age).attached + one (is_detach slot age e) ≡ (generation_of s slot age).attached + one (is_attach slot age e))
    → s'.unanswered + one (is_answer e) ≡ s.unanswered + one (is_due e)
    → owed' ≡ owed_of s' → length j + 1 + owed' ≤ room' → length s'.slots ≡ length s.slots → AllByRecursion AreVersioned s'.slots → AreNamed o.slots s'.slots → AreFew o s'.slots
    → IsKept o j' s' owed' room'
kept o j j' s s' owed owed' room room' e k longer told is held answers owes fits same versions named few = record {
  fold = is ∙ ap (λ x. after o x e) k.fold ∙ sym (after-snoc o (opened o) j e) ∙ ap (λ x. after_all o (opened o) x) (sym longer);
  replied = subst (AreReplied o (opened o)) (sym longer) (replied-snoc o (opened o) j e k.replied (subst (λ x. IsReplied o x e) k.fold told));
  attached = λ slot age. omega (arith, k.attached slot age, held slot age, count-snoc (is_detach slot age) j e, count-snoc (is_attach slot age) j e, ap (count_by (is_detach slot age)) longer, ap (count_by (is_attach slot age)) longer);
  answered = omega (arith, k.answered, answers, count-snoc is_answer j e, count-snoc is_due j e, ap (count_by is_answer) longer, ap (count_by is_due) longer);
  owes = owes;
  room = omega (arith, fits, ap length longer, length-append j (e ∷ []));
  slots = same ∙ k.slots;
  versions = versions;
  named = named;
  few = few;
  within = k.within;
  modules = k.modules;
}

-- ---- numbers of guests

abbrev pub att : List SlotState → ℕ → ℕ → ℕ
att ss slot age = (generation_in (slot_in ss slot).generations age).attached

-- a change of a slot that keeps what its generations have of guests
abbrev pub Quiet : (SlotState → SlotState) → Type 0
Quiet f = (x : SlotState) (age : ℕ) → (generation_in (f x).generations age).attached ≡ (generation_in x.generations age).attached

pub quiet_att : (f : SlotState → SlotState) → Quiet f → (ss : List SlotState) (k slot age : ℕ) → att (with_at f k ss) slot age ≡ att ss slot age
quiet_att f q [] k slot age = refl
quiet_att f q (x ∷ ss) zero zero age = q x age
quiet_att f q (x ∷ ss) zero (suc slot) age = refl
quiet_att f q (x ∷ ss) (suc k) zero age = refl
quiet_att f q (x ∷ ss) (suc k) (suc slot) age = quiet_att f q ss k slot age

pub quiet_owed : (f : SlotState → SlotState) → ((x : SlotState) → owed_by (f x) ≡ owed_by x) → (ss : List SlotState) (k : ℕ) → sum_by owed_by (with_at f k ss) ≡ sum_by owed_by ss
quiet_owed f q [] k = refl
quiet_owed f q (x ∷ ss) zero = sum_by-append owed_by (f x ∷ []) ss ∙ ap (λ n. n + sum_by owed_by ss) (ap (λ n. 0 + n) (q x)) ∙ sym (sum_by-append owed_by (x ∷ []) ss)
quiet_owed f q (x ∷ ss) (suc k) = sum_by-append owed_by (x ∷ []) (with_at f k ss) ∙ ap (λ n. sum_by owed_by (x ∷ []) + n) (quiet_owed f q ss k) ∙ sym (sum_by-append owed_by (x ∷ []) ss)

pub all_with : {A : Type 0} (P : A → Type 0) (f : A → A) → ((x : A) → P x → P (f x)) → (xs : List A) (k : ℕ) → AllByRecursion P xs → AllByRecursion P (with_at f k xs)
all_with P f h [] k all = tt
all_with P f h (x ∷ xs) zero all = (h x all.0, all.1)
all_with P f h (x ∷ xs) (suc k) all = (all.0, all_with P f h xs k all.1)

-- the item at a place is changed, as a write
pub with_is_set : {A : Type 0} (f : A → A) (xs : List A) (k : ℕ) (d : A) → k < length xs → with_at f k xs ≡ set xs k (f (get_or xs k d))
with_is_set f xs k d within = sym (set_is f xs k (get_or xs k d) within (get_or_default xs k d (get_or xs k d) within))

-- a sum where one item is changed
pub sum_with : {A : Type 0} (n : A → ℕ) (f : A → A) (xs : List A) (k : ℕ) (d : A) → k < length xs
    → sum_by n (with_at f k xs) + n (unwrap_or (slice_get xs k) d) ≡ sum_by n xs + n (f (unwrap_or (slice_get xs k) d))
sum_with n f xs k d within =
    let read = unwrap_or-slice_get xs k d in
    ap (λ ys. sum_by n ys + n (unwrap_or (slice_get xs k) d)) (with_is_set f xs k d within)
    ∙ (ap (λ x. sum_by n (set xs k (f (get_or xs k d))) + n x) read ∙ (sum_by-set n xs k (f (get_or xs k d)) d within ∙ ap (λ x. sum_by n xs + n (f x)) (sym read)))

-- ---- tests

and_yes : (a b : ℕ) (c : Bool) → a ≡ b → one ((a == b) && c) ≡ one c
and_yes a b c e = ap (λ x. one (x && c)) (eq-eqb a b e)

and_no : (a b : ℕ) (c : Bool) → (a ≡ b → ⊥) → one ((a == b) && c) ≡ 0
and_no a b c n = ap (λ x. one (x && c)) (ne_eqb a b n)

-- ---- a guest lets a generation go

less_att : (gs : List Generation) (age a : ℕ) → age < length gs → 1 ≤ (generation_in gs age).attached
    → (generation_in (with_at one_less age gs) a).attached + one (age == a) ≡ (generation_in gs a).attached
less_att gs age a within held = dite (ℕ_discrete a age)
    (λ e. let same = nth-with_same one_less gs age no_generation within in
    let here : (generation_in (with_at one_less age gs) age).attached ≡ (generation_in gs age).attached - 1 = ap (λ (g : Generation). g.attached) same in
    subst (λ k. (generation_in (with_at one_less age gs) k).attached + one (age == k) ≡ (generation_in gs k).attached) (sym e)
    (omega (arith, here, held, ap one (eq-eqb age age refl))))
    (λ n. let other = ap (λ (g : Generation). g.attached) (nth-with_other one_less gs age a no_generation n) in
    omega (arith, other, ap one (ne_eqb age a (λ e. n (sym e)))))

pub detach_att : (ss : List SlotState) (k age slot a : ℕ) → k < length ss → age < length (slot_in ss k).generations → 1 ≤ (generation_in (slot_in ss k).generations age).attached
    → att (with_at (with_generation age one_less) k ss) slot a + one ((k == slot) && (age == a)) ≡ att ss slot a
detach_att ss k age slot a within there held = dite (ℕ_discrete slot k)
    (λ e. subst (λ j. att (with_at (with_generation age one_less) k ss) j a + one ((k == j) && (age == a)) ≡ att ss j a) (sym e)
    (let same = ap (λ (x : SlotState). (generation_in x.generations a).attached) (nth-with_same (with_generation age one_less) ss k no_state within) in
    omega (arith, same, less_att (slot_in ss k).generations age a there held, and_yes k k (age == a) refl)))
    (λ n. let other = ap (λ (x : SlotState). (generation_in x.generations a).attached) (nth-with_other (with_generation age one_less) ss k slot no_state n) in
    omega (arith, other, and_no k slot (age == a) (λ e. n (sym e))))

-- one is owed less
pub detach_owed : (ss : List SlotState) (k age : ℕ) → k < length ss → age < length (slot_in ss k).generations → 1 ≤ (generation_in (slot_in ss k).generations age).attached
    → sum_by owed_by (with_at (with_generation age one_less) k ss) + 1 ≡ sum_by owed_by ss
detach_owed ss k age within there held =
    let outer = sum_with owed_by (with_generation age one_less) ss k no_state within in
    let inner = sum_with (λ (g : Generation). g.attached) one_less (slot_in ss k).generations age no_generation there in
    omega (arith, outer, inner, held)

pub detach_versioned : (age : ℕ) (x : SlotState) → AreVersioned x → AreVersioned (with_generation age one_less x)
detach_versioned age x all = all_with IsVersioned one_less (λ g h. h) x.generations age all

-- ---- a guest attaches a generation

zero_suc : (n : ℕ) → one (0 == suc n) ≡ 0
zero_suc n = ap one (ne_eqb 0 (suc n) (λ e. absurd (omega (arith, e))))

suc_zero : (n : ℕ) → one (suc n == 0) ≡ 0
suc_zero n = ap one (ne_eqb (suc n) 0 (λ e. absurd (omega (arith, e))))

suc_suc : (n m : ℕ) → (suc n == suc m) ≡ (n == m)
suc_suc n m = grind (arith, nat_tests)

new_att : (gs : List Generation) (g : Generation) (a : ℕ) → g.attached ≡ 1 → (generation_in (gs ++ g ∷ []) a).attached ≡ (generation_in gs a).attached + one (length gs == a)
new_att [] g zero is = is
new_att [] g (suc a) is = omega (arith, zero_suc a)
new_att (x ∷ gs) g zero is = omega (arith, suc_zero (length gs))
new_att (x ∷ gs) g (suc a) is = new_att gs g a is ∙ ap (λ b. (generation_in gs a).attached + one b) (sym (suc_suc (length gs) a))

more_att : (gs : List Generation) (age a : ℕ) → age < length gs → (generation_in (with_at one_more age gs) a).attached ≡ (generation_in gs a).attached + one (age == a)
more_att [] age a within = absurd (omega arith)
more_att (x ∷ gs) zero zero within = refl
more_att (x ∷ gs) zero (suc a) within = omega (arith, zero_suc a)
more_att (x ∷ gs) (suc age) zero within = omega (arith, suc_zero age)
more_att (x ∷ gs) (suc age) (suc a) within = more_att gs age a (omega arith) ∙ ap (λ b. (generation_in gs a).attached + one b) (sym (suc_suc age a))

pub held_att : (u : Content) (gs : List Generation) (place : Option ℕ) (a : ℕ) → age_of u.image gs ≡ place
    → (generation_in (held_at u gs place) a).attached ≡ (generation_in gs a).attached + one (attach_age place gs == a)
held_att u gs None a is = new_att gs (new_generation u) a refl
held_att u gs (Some age) a is = more_att gs age a (position-Some _ gs age no_generation is).0

held_sum : (u : Content) (gs : List Generation) (place : Option ℕ) → age_of u.image gs ≡ place → sum_by (λ g. g.attached) (held_at u gs place) ≡ sum_by (λ g. g.attached) gs + 1
held_sum u gs None is = sum_by-append (λ g. g.attached) gs (new_generation u ∷ [])
held_sum u gs (Some age) is =
    let s = sum_with (λ (g : Generation). g.attached) one_more gs age no_generation (position-Some _ gs age no_generation is).0 in
    omega (arith, s)

new_all : (P : Generation → Type 0) (g : Generation) (gs : List Generation) → P g → AllByRecursion P gs → AllByRecursion P (gs ++ g ∷ [])
new_all P g [] here all = (here, tt)
new_all P g (x ∷ gs) here all = (all.0, new_all P g gs here all.1)

held_all : (P : Generation → Type 0) (u : Content) (gs : List Generation) (place : Option ℕ) → P (new_generation u) → ((g : Generation) → P g → P (one_more g))
    → AllByRecursion P gs → AllByRecursion P (held_at u gs place)
held_all P u gs None here more all = new_all P (new_generation u) gs here all
held_all P u gs (Some age) here more all = all_with P one_more more gs age all

pub attach_versioned : (o : Opening) (slot file : ℕ) (x : SlotState) → AreVersioned x → AreVersioned (attached (empty_at o slot file) x)
attach_versioned o slot file x all =
    held_all IsVersioned (empty_at o slot file) x.generations (age_of (image_at o slot file) x.generations) (omega arith) (λ g h. h) all

pub attach_att : (u : Content) (ss : List SlotState) (k slot a : ℕ) → k < length ss
    → att (with_at (attached u) k ss) slot a ≡ att ss slot a + one ((k == slot) && (attach_age (age_of u.image (slot_in ss k).generations) (slot_in ss k).generations == a))
attach_att u ss k slot a within =
    let gs = (slot_in ss k).generations in
    let place = age_of u.image gs in
    dite (ℕ_discrete slot k)
    (λ e. subst (λ j. att (with_at (attached u) k ss) j a ≡ att ss j a + one ((k == j) && (attach_age place gs == a))) (sym e)
    (let same = ap (λ (x : SlotState). (generation_in x.generations a).attached) (nth-with_same (attached u) ss k no_state within) in
    omega (arith, same, held_att u gs place a refl, and_yes k k (attach_age place gs == a) refl)))
    (λ n. let other = ap (λ (x : SlotState). (generation_in x.generations a).attached) (nth-with_other (attached u) ss k slot no_state n) in
    omega (arith, other, and_no k slot (attach_age place gs == a) (λ e. n (sym e))))

pub attach_owed : (u : Content) (ss : List SlotState) (k : ℕ) → k < length ss → sum_by owed_by (with_at (attached u) k ss) ≡ sum_by owed_by ss + 1
attach_owed u ss k within =
    let outer = sum_with owed_by (attached u) ss k no_state within in
    omega (arith, outer, held_sum u (slot_in ss k).generations (age_of u.image (slot_in ss k).generations) refl)

-- ---- names

-- a change of a slot that keeps the names of its units
pub named_with : (names : List Slot) (ss : List SlotState) (k : ℕ) (f : SlotState → SlotState)
    → ((x : SlotState) → AllByRecursion (IsNamed (unwrap_or (slice_get names k) no_slot)) x.generations → AllByRecursion (IsNamed (unwrap_or (slice_get names k) no_slot)) (f x).generations)
    → AreNamed names ss → AreNamed names (with_at f k ss)
named_with [] [] k f keeps all = tt
named_with [] (s ∷ ss) k f keeps all = absurd all
named_with (name ∷ names) [] k f keeps all = absurd all
named_with (name ∷ names) (s ∷ ss) zero f keeps all = (keeps s all.0, all.1)
named_with (name ∷ names) (s ∷ ss) (suc k) f keeps all = (all.0, named_with names ss k f keeps all.1)

-- those of one slot
pub named_at : (names : List Slot) (ss : List SlotState) (k : ℕ) → k < length ss → AreNamed names ss → AllByRecursion (IsNamed (unwrap_or (slice_get names k) no_slot)) (slot_in ss k).generations
named_at [] [] k within all = absurd (omega arith)
named_at [] (s ∷ ss) k within all = absurd all
named_at (name ∷ names) [] k within all = absurd all
named_at (name ∷ names) (s ∷ ss) zero within all = all.0
named_at (name ∷ names) (s ∷ ss) (suc k) within all = named_at names ss k (omega arith) all.1

-- ---- a merge

merged_att_by : (b : Bool) (g : Generation) (addrs : List ℕ) → (if b then g else record g { unit = record g.unit { addrs = addrs }; version = version_after g addrs }).attached ≡ g.attached
merged_att_by true g addrs = refl
merged_att_by false g addrs = refl

pub merged_att : (addrs : List ℕ) (g : Generation) → (merged addrs g).attached ≡ g.attached
merged_att addrs g = merged_att_by (is_over (union g.unit.addrs addrs)) g (union g.unit.addrs addrs)

merged_image_by : (b : Bool) (g : Generation) (addrs : List ℕ) → (if b then g else record g { unit = record g.unit { addrs = addrs }; version = version_after g addrs }).unit.image ≡ g.unit.image
merged_image_by true g addrs = refl
merged_image_by false g addrs = refl

merged_image : (addrs : List ℕ) (g : Generation) → (merged addrs g).unit.image ≡ g.unit.image
merged_image addrs g = merged_image_by (is_over (union g.unit.addrs addrs)) g (union g.unit.addrs addrs)

merged_slot_by : (b : Bool) (g : Generation) (addrs : List ℕ) → (if b then g else record g { unit = record g.unit { addrs = addrs }; version = version_after g addrs }).unit.slot ≡ g.unit.slot
merged_slot_by true g addrs = refl
merged_slot_by false g addrs = refl

merged_slot : (addrs : List ℕ) (g : Generation) → (merged addrs g).unit.slot ≡ g.unit.slot
merged_slot addrs g = merged_slot_by (is_over (union g.unit.addrs addrs)) g (union g.unit.addrs addrs)

grown : (v n m : ℕ) → v ≤ n → n ≤ m → (if nat_lt n m then v + 1 else v) ≤ m
grown v n m h l = grind (arith, nat_tests)

merged_versioned_by : (b : Bool) (g : Generation) (addrs : List ℕ) → IsVersioned g → length g.unit.addrs ≤ length addrs
    → IsVersioned (if b then g else record g { unit = record g.unit { addrs = addrs }; version = version_after g addrs })
merged_versioned_by true g addrs v l = v
merged_versioned_by false g addrs v l = grown g.version (length g.unit.addrs) (length addrs) v l

merged_versioned : (addrs : List ℕ) (g : Generation) → IsVersioned g → IsVersioned (merged addrs g)
merged_versioned addrs g v = merged_versioned_by (is_over (union g.unit.addrs addrs)) g (union g.unit.addrs addrs) v (union_grows g.unit.addrs addrs).longer

-- a change of a generation that keeps its number
pub map_att : (f : Generation → Generation) → ((g : Generation) → (f g).attached ≡ g.attached) → (gs : List Generation) (age a : ℕ) → (generation_in (with_at f age gs) a).attached ≡ (generation_in gs a).attached
map_att f h [] age a = refl
map_att f h (g ∷ gs) zero zero = h g
map_att f h (g ∷ gs) zero (suc a) = refl
map_att f h (g ∷ gs) (suc age) zero = refl
map_att f h (g ∷ gs) (suc age) (suc a) = map_att f h gs age a

map_owed : (f : Generation → Generation) → ((g : Generation) → (f g).attached ≡ g.attached) → (gs : List Generation) (age : ℕ) → sum_by (λ g. g.attached) (with_at f age gs) ≡ sum_by (λ g. g.attached) gs
map_owed f h [] age = refl
map_owed f h (g ∷ gs) zero = sum_by-append (λ x. x.attached) (f g ∷ []) gs ∙ ap (λ n. 0 + n + sum_by (λ x. x.attached) gs) (h g) ∙ sym (sum_by-append (λ x. x.attached) (g ∷ []) gs)
map_owed f h (g ∷ gs) (suc age) = sum_by-append (λ x. x.attached) (g ∷ []) (with_at f age gs) ∙ ap (λ n. sum_by (λ x. x.attached) (g ∷ []) + n) (map_owed f h gs age) ∙ sym (sum_by-append (λ x. x.attached) (g ∷ []) gs)

-- ---- the start

opened_att : (found : List (Option Content)) (shut : List Bool) (slot age : ℕ) → att (slots_opened found shut) slot age ≡ 0
opened_att [] shut slot age = refl
opened_att (u ∷ found) [] slot age = refl
opened_att (None ∷ found) (b ∷ shut) zero age = refl
opened_att (Some u ∷ found) (b ∷ shut) zero zero = refl
opened_att (Some u ∷ found) (b ∷ shut) zero (suc age) = refl
opened_att (None ∷ found) (b ∷ shut) (suc slot) age = opened_att found shut slot age
opened_att (Some u ∷ found) (b ∷ shut) (suc slot) age = opened_att found shut slot age

owed_opened : (u : Option Content) (b : Bool) → owed_by (slot_opened u b) ≡ 0
owed_opened None b = refl
owed_opened (Some u) b = refl

opened_owed : (found : List (Option Content)) (shut : List Bool) → sum_by owed_by (slots_opened found shut) ≡ 0
opened_owed [] shut = refl
opened_owed (u ∷ found) [] = refl
opened_owed (u ∷ found) (b ∷ shut) = sum_by-append owed_by (slot_opened u b ∷ []) (slots_opened found shut) ∙ (ap (λ n. 0 + n + sum_by owed_by (slots_opened found shut)) (owed_opened u b) ∙ omega (arith, opened_owed found shut))

opened_length : (found : List (Option Content)) (shut : List Bool) → length shut ≡ length found → length (slots_opened found shut) ≡ length found
opened_length [] shut h = refl
opened_length (u ∷ found) [] h = absurd (omega (arith, h))
opened_length (u ∷ found) (b ∷ shut) h = ap suc (opened_length found shut (omega (arith, h)))

versioned_one : (u : Option Content) (b : Bool) → AreVersioned (slot_opened u b)
versioned_one None b = tt
versioned_one (Some u) b = (omega arith, tt)

opened_versioned : (found : List (Option Content)) (shut : List Bool) → AllByRecursion AreVersioned (slots_opened found shut)
opened_versioned [] shut = tt
opened_versioned (u ∷ found) [] = tt
opened_versioned (u ∷ found) (b ∷ shut) = (versioned_one u b, opened_versioned found shut)

one_at_most : (u : Option Content) (b : Bool) → length (slot_opened u b).generations ≤ 1
one_at_most None b = omega arith
one_at_most (Some u) b = omega arith

opened_one : (found : List (Option Content)) (shut : List Bool) (slot : ℕ) → length (slot_in (slots_opened found shut) slot).generations ≤ 1
opened_one [] shut slot = omega arith
opened_one (u ∷ found) [] slot = omega arith
opened_one (u ∷ found) (b ∷ shut) zero = one_at_most u b
opened_one (u ∷ found) (b ∷ shut) (suc slot) = opened_one found shut slot

opened_named : (names : List Slot) (found : List (Option Content)) (shut : List Bool) → AreFound names found → length shut ≡ length names → AreNamed names (slots_opened found shut)
opened_named [] [] shut all long = tt
opened_named [] (u ∷ found) shut all long = absurd all
opened_named (name ∷ names) [] shut all long = absurd all
opened_named (name ∷ names) (None ∷ found) [] all long = absurd (omega (arith, long))
opened_named (name ∷ names) (Some u ∷ found) [] all long = absurd (omega (arith, long))
opened_named (name ∷ names) (None ∷ found) (b ∷ shut) all long = (tt, opened_named names found shut all (omega (arith, long)))
opened_named (name ∷ names) (Some u ∷ found) (b ∷ shut) all long = ((all.0, tt), opened_named names found shut all.1 (omega (arith, long)))

pub found_length : (names : List Slot) (found : List (Option Content)) → AreFound names found → length found ≡ length names
found_length [] [] all = refl
found_length [] (u ∷ found) all = absurd all
found_length (name ∷ names) [] all = absurd all
found_length (name ∷ names) (None ∷ found) all = ap suc (found_length names found all)
found_length (name ∷ names) (Some u ∷ found) all = ap suc (found_length names found all.1)

pub opened_kept : (o : Opening) (room : ℕ) → IsOpening o → 1 ≤ room → IsKept o [] (opened o) 1 room
opened_kept o room h more = record {
  fold = refl;
  replied = tt;
  attached = λ slot age. omega (arith, opened_att o.found o.shut slot age);
  answered = refl;
  owes = omega (arith, opened_owed o.found o.shut);
  room = omega (arith, more);
  slots = opened_length o.found o.shut (omega (arith, found_length o.slots o.found h.found, h.shut)) ∙ found_length o.slots o.found h.found;
  versions = opened_versioned o.found o.shut;
  named = opened_named o.slots o.found o.shut h.found h.shut;
  few = λ slot. omega (arith, opened_one o.found o.shut slot);
  within = h.few;
  modules = h.modules;
}

-- ---- each entry

abbrev pub st : List ℕ → List SlotState → ℕ → Bool → State
st files slots unanswered finished = record { files = files; slots = slots; unanswered = unanswered; finished = finished }

module _ (o : Opening) (j : List Entry) (files : List ℕ) (ss : List SlotState) (un : ℕ) (fin : Bool) (owed room : ℕ) (k : IsKept o j (st files ss un fin) owed room) where
  -- a guest lets a generation go
  pub detach_owes : (slot age : ℕ) → IsHeld (st files ss un fin) slot age → 1 ≤ owed
  detach_owes slot age h = omega (arith, k.owes, detach_owed ss slot age h.slot_there h.age_there h.held)

  pub detach_kept : (j' : List Entry) (ss' : List SlotState) (room' guest slot age : ℕ) → IsHeld (st files ss un fin) slot age → j' ≡ j ++ Detach guest slot age ∷ [] → room ≤ room'
      → ss' ≡ with_at (with_generation age one_less) slot ss → IsKept o j' (st files ss' un fin) (owed - 1) room'
  detach_kept j' ss' room' guest slot age h longer more is =
      let made = with_at (with_generation age one_less) slot ss in
      let owes = detach_owed ss slot age h.slot_there h.age_there h.held in
      subst (λ (x : List SlotState). IsKept o j' (st files x un fin) (owed - 1) room') (sym is)
      (kept o j j' (st files ss un fin) (st files made un fin) owed (owed - 1) room room' (Detach guest slot age) k longer refl refl
      (λ s a. omega (arith, detach_att ss slot age s a h.slot_there h.age_there h.held)) (omega arith)
      (omega (arith, k.owes, owes)) (omega (arith, k.room, more, detach_owes slot age h)) (length-with_at (with_generation age one_less) ss slot)
      (all_with AreVersioned (with_generation age one_less) (λ x v. detach_versioned age x v) ss slot k.versions)
      (named_with o.slots ss slot (with_generation age one_less) (λ x all. all_with (IsNamed (slot_at o slot)) one_less (λ g h. h) x.generations age all) k.named)
      (few_with o ss slot (with_generation age one_less) h.slot_there k.few (few_same o slot (slot_in ss slot).generations _ (length-with_at one_less (slot_in ss slot).generations age) (λ image. any_with (has_image image) one_less (λ g. refl) (slot_in ss slot).generations age) (k.few slot))))

  -- a guest attaches a generation
  pub attach_kept : (j' : List Entry) (ss' : List SlotState) (room' guest slot file age version : ℕ) → slot < length ss → file < length o.codes
      → age ≡ attach_age (age_of (image_at o slot file) (slot_in ss slot).generations) (slot_in ss slot).generations
      → version ≡ (attach_generation (empty_at o slot file) (slot_in ss slot).generations (age_of (image_at o slot file) (slot_in ss slot).generations)).version
      → j' ≡ j ++ Attach guest slot file age version ∷ [] → length j + 1 + (owed + 1) ≤ room' → ss' ≡ with_at (attached (empty_at o slot file)) slot ss → IsKept o j' (st files ss' un fin) (owed + 1) room'
  attach_kept j' ss' room' guest slot file age version within below at now longer more is =
      let unit = empty_at o slot file in
      let gs = (slot_in ss slot).generations in
      subst (λ (x : List SlotState). IsKept o j' (st files x un fin) (owed + 1) room') (sym is)
      (kept o j j' (st files ss un fin) (st files (with_at (attached unit) slot ss) un fin) owed (owed + 1) room room' (Attach guest slot file age version) k longer (ap (λ n. Some (Attach guest slot file n (attaches_generation o (st files ss un fin) slot file).version)) (sym at) ∙ ap (λ n. Some (Attach guest slot file age n)) (sym now)) refl
      (λ s a. omega (arith, attach_att unit ss slot s a within, ap (λ x. one ((slot == s) && (x == a))) at)) refl
      (omega (arith, k.owes, attach_owed unit ss slot within)) more (length-with_at (attached unit) ss slot)
      (all_with AreVersioned (attached unit) (λ x v. attach_versioned o slot file x v) ss slot k.versions)
      (named_with o.slots ss slot (attached unit) (λ x all. held_all (IsNamed (slot_at o slot)) unit x.generations (age_of unit.image x.generations) refl (λ g h. h) all) k.named)
      (few_with o ss slot (attached unit) within k.few (held_few o slot file gs (age_of unit.image gs) refl below (k.few slot))))

  -- a publication is answered
  answer_kept : (f : SlotState → SlotState) (e : Entry) (j' : List Entry) (ss' : List SlotState) (room' slot : ℕ) → Quiet f → ((x : SlotState) → owed_by (f x) ≡ owed_by x) → ((x : SlotState) → AreVersioned x → AreVersioned (f x))
      → after o (st files ss un fin) e ≡ st files (with_at f slot ss) (un - 1) fin → ((s a : ℕ) → (is_detach s a e ≡ false) × (is_attach s a e ≡ false)) → is_answer e ≡ true → is_due e ≡ false → IsReplied o (st files ss un fin) e
      → slot < length ss → ((x : SlotState) → (f x).generations ≡ x.generations) → 1 ≤ un → j' ≡ j ++ e ∷ [] → room ≤ room' → ss' ≡ with_at f slot ss → IsKept o j' (st files ss' (un - 1) fin) (owed - 1) room'
  answer_kept f e j' ss' room' slot quiet owed_same versioned does neither answer due told within same some longer more is =
      subst (λ (x : List SlotState). IsKept o j' (st files x (un - 1) fin) (owed - 1) room') (sym is)
      (kept o j j' (st files ss un fin) (st files (with_at f slot ss) (un - 1) fin) owed (owed - 1) room room' e k longer told (sym does)
      (λ s a. omega (arith, quiet_att f quiet ss slot s a, ap one (neither s a).0, ap one (neither s a).1)) (omega (arith, some, ap one answer, ap one due))
      (omega (arith, k.owes, quiet_owed f owed_same ss slot, some)) (omega (arith, k.room, more, k.owes, some)) (length-with_at f ss slot)
      (all_with AreVersioned f versioned ss slot k.versions)
      (named_with o.slots ss slot f (λ x all. subst (AllByRecursion (IsNamed (slot_at o slot))) (sym (same x)) all) k.named)
      (few_with o ss slot f within k.few (subst (λ gs. length gs ≤ 1 + passing (has_file o slot gs) (length o.codes)) (sym (same (slot_in ss slot))) (k.few slot))))

  pub answer_owes : 1 ≤ un → 1 ≤ owed
  answer_owes some = omega (arith, k.owes)

  pub acked_kept : (j' : List Entry) (ss' : List SlotState) (room' slot age version : ℕ) → slot < length ss → 1 ≤ un → j' ≡ j ++ Acked slot age version ∷ [] → room ≤ room'
      → ss' ≡ with_at (published_as age version) slot ss → IsKept o j' (st files ss' (un - 1) fin) (owed - 1) room'
  acked_kept j' ss' room' slot age version within some longer more is =
      answer_kept (published_as age version) (Acked slot age version) j' ss' room' slot (λ x a. refl) (λ x. refl) (λ x v. v) refl (λ s a. (refl, refl)) refl refl refl within (λ x. refl) some longer more is

  pub failed_kept : (j' : List Entry) (ss' : List SlotState) (room' slot : ℕ) → slot < length ss → 1 ≤ un → j' ≡ j ++ Failed slot ∷ [] → room ≤ room'
      → ss' ≡ with_at shut_now slot ss → IsKept o j' (st files ss' (un - 1) fin) (owed - 1) room'
  failed_kept j' ss' room' slot within some longer more is =
      answer_kept shut_now (Failed slot) j' ss' room' slot (λ x a. refl) (λ x. refl) (λ x v. v) refl (λ s a. (refl, refl)) refl refl refl within (λ x. refl) some longer more is

  -- all is done
  pub finish_kept : (j' : List Entry) (room' : ℕ) → fin ≡ false → j' ≡ j ++ Finish ∷ [] → room ≤ room' → IsKept o j' (st files ss un true) (owed - 1) room'
  finish_kept j' room' not_yet longer more =
      let one_owed : owed_of (st files ss un fin) ≡ sum_by owed_by ss + un + 1 = ap (λ b. sum_by owed_by ss + un + (if b then 0 else 1)) not_yet in
      kept o j j' (st files ss un fin) (st files ss un true) owed (owed - 1) room room' Finish k longer (ap (λ b. if b then None else Some Finish) not_yet) refl (λ s a. refl) refl
      (omega (arith, k.owes, one_owed)) (omega (arith, k.room, more, k.owes, one_owed)) refl k.versions k.named k.few

  -- a module is another file
  pub replace_kept : (j' : List Entry) (files' : List ℕ) (room' guest m file : ℕ) (reply : Replaced) → j' ≡ j ++ Replace guest m file reply ∷ [] → length j + 1 + owed ≤ room'
      → reply ≡ replaced_by files (length o.codes) m file → files' ≡ files_after (replaced_by files (length o.codes) m file) files m file → IsKept o j' (st files' ss un fin) owed room'
  replace_kept j' files' room' guest m file reply longer more told is =
      kept o j j' (st files ss un fin) (st files' ss un fin) owed owed room room' (Replace guest m file reply) k longer (ap (λ r. Some (Replace guest m file r)) (sym told))
      (ap (λ (x : List ℕ). st x ss un fin) is) (λ s a. refl) refl k.owes more refl k.versions k.named k.few

  -- nothing changes but the journal
  pub map_kept : (j' : List Entry) (room' guest m : ℕ) (file : Option ℕ) → j' ≡ j ++ Map guest m file ∷ [] → length j + 1 + owed ≤ room' → file ≡ slice_get files m → IsKept o j' (st files ss un fin) owed room'
  map_kept j' room' guest m file longer more told =
      kept o j j' (st files ss un fin) (st files ss un fin) owed owed room room' (Map guest m file) k longer (ap (λ f. Some (Map guest m f)) (sym told)) refl (λ s a. refl) refl k.owes more refl k.versions k.named k.few

  pub due_kept : (j' : List Entry) (room' slot age version : ℕ) → j' ≡ j ++ Due slot age version ∷ [] → length j + 1 + (owed + 1) ≤ room' → due_entry (first_due 0 ss) ≡ Some (Due slot age version) → IsKept o j' (st files ss (un + 1) fin) (owed + 1) room'
  due_kept j' room' slot age version longer more told =
      kept o j j' (st files ss un fin) (st files ss (un + 1) fin) owed (owed + 1) room room' (Due slot age version) k longer told refl (λ s a. refl) (omega arith) (omega (arith, k.owes)) more refl k.versions k.named k.few

  pub few_due : un ≤ length j
  few_due = omega (arith, k.answered, count_by-le-length is_due j)

  -- a merge
  pub merge_kept : (j' : List Entry) (ss' : List SlotState) (room' guest slot age : ℕ) (addrs : List ℕ) (reply : Merged) → slot < length ss → j' ≡ j ++ Merge guest slot age addrs reply ∷ [] → length j + 1 + owed ≤ room'
      → reply ≡ merge_reply addrs (generation_in (slot_in ss slot).generations age)
      → ss' ≡ with_at (with_generation age (merged addrs)) slot ss → IsKept o j' (st files ss' un fin) owed room'
  merge_kept j' ss' room' guest slot age addrs reply within longer more told is =
      let f : SlotState → SlotState = with_generation age (merged addrs) in
      subst (λ (x : List SlotState). IsKept o j' (st files x un fin) owed room') (sym is)
      (kept o j j' (st files ss un fin) (st files (with_at f slot ss) un fin) owed owed room room' (Merge guest slot age addrs reply) k longer (ap (λ r. Some (Merge guest slot age addrs r)) (sym told)) refl
      (λ s a. omega (arith, quiet_att f (λ x b. map_att (merged addrs) (merged_att addrs) x.generations age b) ss slot s a)) refl
      (omega (arith, k.owes, quiet_owed f (λ x. map_owed (merged addrs) (merged_att addrs) x.generations age) ss slot)) more (length-with_at f ss slot)
      (all_with AreVersioned f (λ x v. all_with IsVersioned (merged addrs) (merged_versioned addrs) x.generations age v) ss slot k.versions)
      (named_with o.slots ss slot f (λ x all. all_with (IsNamed (slot_at o slot)) (merged addrs) (λ g h. merged_slot addrs g ∙ h) x.generations age all) k.named)
      (few_with o ss slot f within k.few (few_same o slot (slot_in ss slot).generations _ (length-with_at (merged addrs) (slot_in ss slot).generations age)
      (λ image. any_with (has_image image) (merged addrs) (λ g. ap (λ (i : Code). same_code i image) (merged_image addrs g)) (slot_in ss slot).generations age) (k.few slot))))
