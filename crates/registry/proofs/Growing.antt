-- A generation keeps its slot and image, and its set of addresses grows.
use Rattle.std.proofs.Common.{◌≡◌, ℕ, zero, suc, ◌<◌, ◌||◌, Bool, true, false, if◌then◌else◌, List, [], ◌∷◌, ◌++◌, length, refl, sym, ap, ◌∙◌, subst, arith, Option, Some, None}
use Rattle.std.proofs.lemmas.List.{length-append}
use Rattle.unit_set.specs.Sets.{has}
use Rattle.registry.specs.declared.entry.Entry.{Entry}
use Rattle.registry.specs.declared.entry.Entry.TheVariants.{Map, Replace, Attach, Merge, Detach, Due, Acked, Failed, Finish}
use Rattle.registry.specs.Content.{Content, union}
use Rattle.registry.specs.Opening.{Opening, empty_at}
use Rattle.registry.specs.State.{State, SlotState, Generation, with_at}
use Rattle.registry.specs.Registry.{after, after_all, age_of, attached, attaches_generation, generation_in, generation_of, held_at, is_over, merged, new_generation, one_less, one_more, opened, published_as, reg, shut_now, slot_in, version_after, with_generation, AreReplied, IsReplied}
use Rattle.registry.specs.Laws.{AttachesGoOn, GoesOn}
use Rattle.registry.proofs.Units.{has_union}
use Rattle.registry.proofs.Places.{length-with_at}
use Rattle.registry.proofs.Holding.{age_told, is_attached}

same : (u : Content) → GoesOn u u
same u = record { slot = refl; image = refl; addrs = λ a h. h }

on : (u v w : Content) → GoesOn u v → GoesOn v w → GoesOn u w
on u v w g h = record { slot = h.slot ∙ g.slot; image = h.image ∙ g.image; addrs = λ a is. h.addrs a (g.addrs a is) }

-- ---- a merge

or_left : (p q : Bool) → p ≡ true → (p || q) ≡ true
or_left p q is = ap (λ x. x || q) is

merged_on_by : (over : Bool) (g : Generation) (addrs : List ℕ) → ((a : ℕ) → has a g.unit.addrs ≡ true → has a addrs ≡ true)
    → GoesOn g.unit (if over then g else record g { unit = record g.unit { addrs = addrs }; version = version_after g addrs }).unit
merged_on_by true g addrs more = same g.unit
merged_on_by false g addrs more = record { slot = refl; image = refl; addrs = more }

merged_on : (addrs : List ℕ) (g : Generation) → GoesOn g.unit (merged addrs g).unit
merged_on addrs g = merged_on_by (is_over (union g.unit.addrs addrs)) g (union g.unit.addrs addrs) (λ a is. has_union a g.unit.addrs addrs ∙ or_left _ _ is)

-- ---- the generations of a slot

-- the generation at this place is there still, and goes on
record Stays (old new : List Generation) (age : ℕ) : Type 0 where
  there : age < length new
  on : GoesOn (generation_in old age).unit (generation_in new age).unit

stays_self : (gs : List Generation) (age : ℕ) → age < length gs → Stays gs gs age
stays_self gs age within = record { there = within; on = same (generation_in gs age).unit }

changed_on : (f : Generation → Generation) → ((g : Generation) → GoesOn g.unit (f g).unit) → (gs : List Generation) (k age : ℕ) → GoesOn (generation_in gs age).unit (generation_in (with_at f k gs) age).unit
changed_on f h [] k age = same (generation_in [] age).unit
changed_on f h (g ∷ gs) zero zero = h g
changed_on f h (g ∷ gs) zero (suc age) = same (generation_in gs age).unit
changed_on f h (g ∷ gs) (suc k) zero = same g.unit
changed_on f h (g ∷ gs) (suc k) (suc age) = changed_on f h gs k age

changed : (f : Generation → Generation) → ((g : Generation) → GoesOn g.unit (f g).unit) → (gs : List Generation) (k age : ℕ) → age < length gs → Stays gs (with_at f k gs) age
changed f h gs k age within = record { there = omega (arith, within, length-with_at f gs k); on = changed_on f h gs k age }

one_more_on : (gs : List Generation) (g : Generation) (age : ℕ) → age < length gs → GoesOn (generation_in gs age).unit (generation_in (gs ++ g ∷ []) age).unit
one_more_on [] g age within = absurd (omega arith)
one_more_on (x ∷ gs) g zero within = same x.unit
one_more_on (x ∷ gs) g (suc age) within = one_more_on gs g age (omega arith)

held_stays : (u : Content) (gs : List Generation) (place : Option ℕ) (age : ℕ) → age < length gs → Stays gs (held_at u gs place) age
held_stays u gs None age within = record { there = omega (arith, within, length-append gs (new_generation u ∷ [])); on = one_more_on gs (new_generation u) age within }
held_stays u gs (Some k) age within = changed one_more (λ g. same g.unit) gs k age within

-- ---- slots

abbrev Keeps : (SlotState → SlotState) → Type 0
Keeps f = (x : SlotState) (age : ℕ) → age < length x.generations → Stays x.generations (f x).generations age

abbrev StaysAt : List SlotState → List SlotState → ℕ → ℕ → Type 0
StaysAt ss now slot age = Stays (slot_in ss slot).generations (slot_in now slot).generations age

slot_stays : (f : SlotState → SlotState) → Keeps f → (ss : List SlotState) (k slot age : ℕ) → age < length (slot_in ss slot).generations → StaysAt ss (with_at f k ss) slot age
slot_stays f h [] k slot age within = stays_self _ age within
slot_stays f h (x ∷ ss) zero zero age within = h x age within
slot_stays f h (x ∷ ss) zero (suc slot) age within = stays_self (slot_in ss slot).generations age within
slot_stays f h (x ∷ ss) (suc k) zero age within = stays_self x.generations age within
slot_stays f h (x ∷ ss) (suc k) (suc slot) age within = slot_stays f h ss k slot age within

-- ---- an entry, and more

entry_stays : (o : Opening) (s : State) (e : Entry) (slot age : ℕ) → age < length (slot_in s.slots slot).generations → StaysAt s.slots (after o s e).slots slot age
entry_stays o s (Map guest k file) slot age within = stays_self _ age within
entry_stays o s (Replace guest k file reply) slot age within = stays_self _ age within
entry_stays o s (Attach guest k file a version) slot age within =
    let u = empty_at o k file in
    slot_stays (attached u) (λ x b h. held_stays u x.generations (age_of u.image x.generations) b h) s.slots k slot age within
entry_stays o s (Merge guest k a addrs reply) slot age within =
    slot_stays (with_generation a (merged addrs)) (λ x b h. changed (merged addrs) (merged_on addrs) x.generations a b h) s.slots k slot age within
entry_stays o s (Detach guest k a) slot age within =
    slot_stays (with_generation a one_less) (λ x b h. changed one_less (λ g. same g.unit) x.generations a b h) s.slots k slot age within
entry_stays o s (Due k a version) slot age within = stays_self _ age within
entry_stays o s (Acked k a version) slot age within = slot_stays (published_as a version) (λ x b h. stays_self x.generations b h) s.slots k slot age within
entry_stays o s (Failed k) slot age within = slot_stays shut_now (λ x b h. stays_self x.generations b h) s.slots k slot age within
entry_stays o s Finish slot age within = stays_self _ age within

all_stay : (o : Opening) (s : State) (es : List Entry) (slot age : ℕ) → age < length (slot_in s.slots slot).generations → StaysAt s.slots (after_all o s es).slots slot age
all_stay o s [] slot age within = stays_self _ age within
all_stay o s (e ∷ es) slot age within =
    let first = entry_stays o s e slot age within in
    let later = all_stay o (after o s e) es slot age first.there in
    record { there = later.there; on = on _ _ _ first.on later.on }

-- ---- how many slots there are

slots_step : (o : Opening) (s : State) (e : Entry) → length (after o s e).slots ≡ length s.slots
slots_step o s (Map guest k file) = refl
slots_step o s (Replace guest k file reply) = refl
slots_step o s (Attach guest k file a version) = length-with_at (attached (empty_at o k file)) s.slots k
slots_step o s (Merge guest k a addrs reply) = length-with_at (with_generation a (merged addrs)) s.slots k
slots_step o s (Detach guest k a) = length-with_at (with_generation a one_less) s.slots k
slots_step o s (Due k a version) = refl
slots_step o s (Acked k a version) = length-with_at (published_as a version) s.slots k
slots_step o s (Failed k) = length-with_at shut_now s.slots k
slots_step o s Finish = refl

slots_all : (o : Opening) (s : State) (es : List Entry) → length (after_all o s es).slots ≡ length s.slots
slots_all o s [] = refl
slots_all o s (e ∷ es) = slots_all o (after o s e) es ∙ slots_step o s e

-- ---- what was handed out

after-append : (o : Opening) (s : State) (xs ys : List Entry) → after_all o s (xs ++ ys) ≡ after_all o (after_all o s xs) ys
after-append o s [] ys = refl
after-append o s (x ∷ xs) ys = after-append o (after o s x) xs ys

replied_at : (o : Opening) (s : State) (xs ys : List Entry) (e : Entry) → AreReplied o s (xs ++ e ∷ ys) → IsReplied o (after_all o s xs) e
replied_at o s [] ys e all = all.0
replied_at o s (x ∷ xs) ys e all = replied_at o (after o s x) xs ys e all.1

goes_on : (o : Opening) (s : State) (more : List Entry) (guest slot file age version : ℕ) → IsReplied o s (Attach guest slot file age version) → slot < length (after_all o s (Attach guest slot file age version ∷ more)).slots
    → GoesOn (attaches_generation o s slot file).unit (generation_of (after_all o s (Attach guest slot file age version ∷ more)) slot age).unit
goes_on o s more guest slot file age version told within =
    let e = Attach guest slot file age version in
    let there : slot < length s.slots = omega (arith, within, slots_all o s (e ∷ more)) in
    let made = is_attached o s (after o s e) slot file age there refl (age_told _ _ _ _ _ _ _ _ _ _ told) in
    let later = all_stay o (after o s e) more slot age made.0.age_there in
    subst (λ u. GoesOn u (generation_of (after_all o s (e ∷ more)) slot age).unit) made.1 later.on

pub attaches-go-on : AttachesGoOn
attaches-go-on o before more guest slot file age version all within =
    let e = Attach guest slot file age version in
    let split = after-append o (opened o) before (e ∷ more) in
    subst (λ (x : State). GoesOn (attaches_generation o (reg o before) slot file).unit (generation_of x slot age).unit) (sym split)
    (goes_on o (reg o before) more guest slot file age version (replied_at o (opened o) before more e all) (subst (λ (x : State). slot < length x.slots) split within))
