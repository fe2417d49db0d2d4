-- What a guest holds, and what may be answered, behind one entry more.
use Rattle.std.proofs.Common.{◌≡◌, ℕ, zero, suc, ◌+◌, ◌<◌, ◌≤◌, Bool, cond, count_by, List, [], ◌∷◌, ◌++◌, length, refl, sym, ap, subst, ◌∙◌, arith, Option, Some, None, eq-eqb}
use Rattle.std.specs.Prelude.{unwrap_or}
use Rattle.std.proofs.lemmas.List.{length-append}
use Rattle.std.proofs.lemmas.List.Sums.{sum_by-append}
use Rattle.std.proofs.lemmas.Option.{slice_get_past}
use Rattle.std.proofs.lemmas.List.Quantifiers.{position-Some}
use Rattle.std.proofs.Common.{inl, inr}
use Rattle.std.proofs.lemmas.Bool.{cases_lt}
use mathlib.Core.Logic.{dite}
use native.Mathlib.Decide.{ℕ_discrete}
use Rattle.registry.specs.declared.entry.Entry.{Entry}
use Rattle.registry.specs.declared.entry.Entry.TheVariants.{Attach, Merge, Due}
use Rattle.registry.specs.declared.entry.Stamp.{Stamp}
use Rattle.registry.specs.Content.{Content}
use Rattle.registry.specs.Opening.{Opening, empty_at}
use Rattle.registry.specs.State.{State, SlotState, Generation, with_at, due_slot, first_due}
use Rattle.registry.specs.Registry.{after, attach_age, attach_generation, attached, attaches_generation, age_of, due_entry, generation_in, generation_of, held_at, merged, no_generation, no_state, one_more, new_generation, slot_in, slot_of, with_generation}
use Rattle.registry.specs.History.{History, IsHeld, is_attach, is_detach, state_of}
use Rattle.registry.specs.Laws.{AttachesHold, HoldsItsOwn, MergesKeep, DuesMayBeAnswered}
use Rattle.registry.proofs.Dues.{due_there}
use Rattle.registry.proofs.Keeps.{after-snoc, held_att, map_att, merged_att, one}
use Rattle.registry.proofs.Places.{length-with_at, nth-with_same, nth-with_other}

-- the state behind one entry more
behind : (old new : History) (e : Entry) → new ≡ record old { journal = old.journal ++ e ∷ [] } → state_of new ≡ after old.opening (state_of old) e
behind old new e is = ap (λ (h : History). state_of h) is ∙ after-snoc old.opening _ old.journal e

-- ---- attaching

at_end : (gs : List Generation) (g : Generation) → generation_in (gs ++ g ∷ []) (length gs) ≡ g
at_end [] g = refl
at_end (x ∷ gs) g = at_end gs g

record Holds (u : Content) (gs : List Generation) (place : Option ℕ) : Type 0 where
  there : attach_age place gs < length (held_at u gs place)
  unit : (generation_in (held_at u gs place) (attach_age place gs)).unit ≡ (attach_generation u gs place).unit

holds : (u : Content) (gs : List Generation) (place : Option ℕ) → age_of u.image gs ≡ place → Holds u gs place
holds u gs None is = record { there = omega (arith, length-append gs (new_generation u ∷ [])); unit = ap (λ (g : Generation). g.unit) (at_end gs (new_generation u)) }
holds u gs (Some age) is =
    let within = (position-Some _ gs age no_generation is).0 in
    record { there = omega (arith, within, length-with_at one_more gs age); unit = ap (λ (g : Generation). g.unit) (nth-with_same one_more gs age no_generation within) }

pub is_attached : (o : Opening) (s now : State) (slot file age : ℕ) → slot < length s.slots → now ≡ record s { slots = with_at (attached (empty_at o slot file)) slot s.slots }
    → age ≡ attach_age (age_of (empty_at o slot file).image (slot_of s slot).generations) (slot_of s slot).generations
    → IsHeld now slot age × ((generation_of now slot age).unit ≡ (attaches_generation o s slot file).unit)
is_attached o s now slot file age within is at =
    let u = empty_at o slot file in
    let gs = (slot_of s slot).generations in
    let place = age_of u.image gs in
    let here : (slot_of now slot).generations ≡ held_at u gs place =
    ap (λ (x : State). (slot_of x slot).generations) is ∙ ap (λ (x : SlotState). x.generations) (nth-with_same (attached u) s.slots slot no_state within) in
    let h = holds u gs place refl in
    let more = held_att u gs place age refl in
    let same = ap (λ (xs : List Generation). (generation_in xs age).attached) here in
    let same_age = eq-eqb (attach_age place gs) age (sym at) in (
      record {
        slot_there = omega (arith, within, ap (λ (x : State). length x.slots) is, length-with_at (attached u) s.slots slot);
        age_there = omega (arith, h.there, at, ap length here);
        held = omega (arith, same, more, ap one same_age);
      },
      ap (λ (xs : List Generation). (generation_in xs age).unit) here ∙ (ap (λ n. (generation_in (held_at u gs place) n).unit) at ∙ h.unit),
    )

pub age_told : (a b c d e f g h i j : ℕ) → (let x : Option Entry = Some (Attach a b c d e) in x) ≡ Some (Attach f g h i j) → i ≡ d
age_told a b c d e f g h i j is = cc

pub attaches-hold : AttachesHold
attaches-hold old new guest slot file age version within adds =
    let made = is_attached old.opening (state_of old) (state_of new) slot file age within (behind old new (Attach guest slot file age version) adds.added) (age_told _ _ _ _ _ _ _ _ _ _ adds.replied) in
    record { held = made.0; unit = made.1 }

-- ---- merging

att_same : (f : Generation → Generation) → ((g : Generation) → (f g).attached ≡ g.attached) → (ss : List SlotState) (slot age s a : ℕ) → slot < length ss
    → ((generation_in (slot_in (with_at (with_generation age f) slot ss) s).generations a).attached ≡ (generation_in (slot_in ss s).generations a).attached)
    × (length (slot_in (with_at (with_generation age f) slot ss) s).generations ≡ length (slot_in ss s).generations)
att_same f h ss slot age s a within = dite (ℕ_discrete s slot)
    (λ e. let same = nth-with_same (with_generation age f) ss slot no_state within in
    subst (λ k. ((generation_in (slot_in (with_at (with_generation age f) slot ss) k).generations a).attached ≡ (generation_in (slot_in ss k).generations a).attached)
    × (length (slot_in (with_at (with_generation age f) slot ss) k).generations ≡ length (slot_in ss k).generations)) (sym e) (
      ap (λ (x : SlotState). (generation_in x.generations a).attached) same ∙ map_att f h (slot_in ss slot).generations age a,
      ap (λ (x : SlotState). length x.generations) same ∙ length-with_at f (slot_in ss slot).generations age,
    ))
    (λ n. let other = nth-with_other (with_generation age f) ss slot s no_state n in
    (ap (λ (x : SlotState). (generation_in x.generations a).attached) other, ap (λ (x : SlotState). length x.generations) other))

past_end : {A : Type 0} (f : A → A) (xs : List A) (k : ℕ) → length xs ≤ k → with_at f k xs ≡ xs
past_end f [] k past = refl
past_end f (x ∷ xs) zero past = absurd (omega arith)
past_end f (x ∷ xs) (suc k) past = ap (λ ys. x ∷ ys) (past_end f xs k (omega arith))

record Same (ss now : List SlotState) (s a : ℕ) : Type 0 where
  attached : (generation_in (slot_in now s).generations a).attached ≡ (generation_in (slot_in ss s).generations a).attached
  ages : length (slot_in now s).generations ≡ length (slot_in ss s).generations

same_all : (f : Generation → Generation) → ((g : Generation) → (f g).attached ≡ g.attached) → (ss : List SlotState) (slot age s a : ℕ) → Same ss (with_at (with_generation age f) slot ss) s a
same_all f h ss slot age s a = elim (cases_lt slot (length ss)) [
  | inl within ↦ let e = att_same f h ss slot age s a within in record { attached = e.0; ages = e.1 }
  | inr past ↦ let e = past_end (with_generation age f) ss slot past in
      record { attached = ap (λ xs. (generation_in (slot_in xs s).generations a).attached) e; ages = ap (λ xs. length (slot_in xs s).generations) e }
]

pub merges-keep : MergesKeep
merges-keep old new guest slot age addrs reply s a adds held =
    let is = behind old new (Merge guest slot age addrs reply) adds.added in
    let ss = (state_of old).slots in
    let same = same_all (merged addrs) (merged_att addrs) ss slot age s a in
    let now = ap (λ (x : State). x.slots) is in
    record {
      slot_there = omega (arith, held.slot_there, ap (λ (xs : List SlotState). length xs) now, length-with_at (with_generation age (merged addrs)) ss slot);
      age_there = omega (arith, held.age_there, ap (λ (xs : List SlotState). length (slot_in xs s).generations) now, same.ages);
      held = omega (arith, held.held, ap (λ (xs : List SlotState). (generation_in (slot_in xs s).generations a).attached) now, same.attached);
    }

-- ---- what is due

due_by : (ss : List SlotState) (o : Option (ℕ × Stamp)) (slot age version : ℕ) → first_due 0 ss ≡ o → due_entry o ≡ Some (Due slot age version) → slot < length ss
due_by ss None slot age version is h = absurd (cc)
due_by ss (Some d) slot age version is h =
    let e : d.0 ≡ slot = same_slot d.0 d.1.age d.1.version slot age version h in
    subst (λ n. n < length ss) e (due_there ss d.0 d.1 is).0
  where
    same_slot : (a b c x y z : ℕ) → (let o : Option Entry = Some (Due a b c) in o) ≡ Some (Due x y z) → a ≡ x
    same_slot a b c x y z h = cc

pub dues-may-be-answered : DuesMayBeAnswered
dues-may-be-answered old new slot age version adds =
    let is = behind old new (Due slot age version) adds.added in
    let within = due_by (state_of old).slots (due_slot (state_of old)) slot age version refl adds.replied in
    record {
      slot_there = omega (arith, within, ap (λ (x : State). length x.slots) is);
      due = omega (arith, ap (λ (x : State). x.unanswered) is);
    }

-- ---- what a guest attached more often than it let it go

age_there : (gs : List Generation) (age : ℕ) → 1 ≤ (generation_in gs age).attached → age < length gs
age_there gs age held = elim (cases_lt age (length gs)) [
  | inl within ↦ within
  | inr past ↦
      let none_there : (generation_in gs age).attached ≡ 0 = ap (λ (g : Option Generation). (unwrap_or g no_generation).attached) (slice_get_past gs age past) in
      absurd (omega (arith, held, none_there))
]

slot_there : (s : State) (slot age : ℕ) → 1 ≤ (generation_of s slot age).attached → slot < length s.slots
slot_there s slot age held = elim (cases_lt slot (length s.slots)) [
  | inl within ↦ within
  | inr past ↦
      let none_there : (generation_of s slot age).attached ≡ 0 = ap (λ (x : Option SlotState). (generation_in (unwrap_or x no_state).generations age).attached) (slice_get_past s.slots slot past) in
      absurd (omega (arith, held, none_there))
]

is_held : (s : State) (slot age : ℕ) → 1 ≤ (generation_of s slot age).attached → IsHeld s slot age
is_held s slot age held = record { slot_there = slot_there s slot age held; age_there = age_there (slot_of s slot).generations age held; held = held }

count-append : (p : Entry → Bool) (xs ys : List Entry) → count_by p (xs ++ ys) ≡ count_by p xs + count_by p ys
count-append p xs ys = sum_by-append (λ x. cond (p x) 1 0) xs ys

pub holds-its-own : HoldsItsOwn
holds-its-own old new more slot age go is counted own =
    let j : new.journal ≡ old.journal ++ more = ap (λ (h : History). h.journal) is in
    is_held (state_of new) slot age (omega (
      arith,
      counted.attached slot age,
      go slot age,
      own,
      ap (count_by (is_detach slot age)) j,
      ap (count_by (is_attach slot age)) j,
      count-append (is_detach slot age) old.journal more,
      count-append (is_attach slot age) old.journal more,
    ))
