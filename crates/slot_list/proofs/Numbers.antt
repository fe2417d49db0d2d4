-- The number of each slot.
use Rattle.std.proofs.Common.{◌≡◌, ℕ, zero, suc, ◌+◌, ◌*◌, ◌<◌, ◌≤◌, List, [], ◌∷◌, ◌++◌, length, take, get_or, Some, None, option_map, flat_map, refl, ap, sym, ◌∙◌, arith, suc-mul, add-mul, mul_assoc, mul-le-mul_right, add_assoc, zero-add, Option}
use Rattle.std.specs.Prelude.{slice_get}
use Rattle.std.specs.List.{range_with_len}
use Rattle.std.proofs.lemmas.List.{length-map, map_more, append_assoc}
use Rattle.std.proofs.lemmas.List.FromFn.{length-range_with_len}
use Rattle.std.proofs.lemmas.Option.{same_Some, slice_get-map, slice_get_within}
use Rattle.manifest.specs.Entries.{ModuleEntry, IsModule}
use Rattle.manifest.specs.Names.{is_name}
use Rattle.manifest.specs.Manifest.{module_names}
use Rattle.plain_machine.specs.Program.{Program}
use Rattle.elf_map.specs.Program.{texts_of}
use Rattle.unit_set.specs.Slot.{Slot, IsSlot}
use Rattle.slot_list.specs.Recipe.{Recipe, IsRecipe}
use Rattle.slot_list.specs.Slots.{Layout, most_segs, layout_of, slot_for, segment_slots, module_slots, slots_in}
use Rattle.slot_list.specs.Laws.{AreDistinct, SlotsDiffer, SegmentsAreNumbered}
use Rattle.slot_list.proofs.Places.{get_at, place_in, length_joined, number_at, at_number, pieces_more, numbers_more}
use Rattle.slot_list.proofs.Uses.{same_parts, recipes_differ}

-- ---- how many there are

module _ (layout : Layout) where
  abbrev count : ℕ
  count = length layout.recipes

  segment_size : (m : ModuleEntry) (seg : ℕ) → length (segment_slots layout.recipes m seg) ≡ count
  segment_size m seg = length-map layout.recipes (slot_for m seg)

  module_size : (m : ModuleEntry) → length (module_slots layout m) ≡ layout.segs * count
  module_size m =
      length_joined (segment_slots layout.recipes m) count (segment_size m) (range_with_len 0 layout.segs)
      ∙ ap (λ n. n * count) (length-range_with_len 0 layout.segs)

  pub slot_count : (modules : List ModuleEntry) → length (slots_in modules layout) ≡ length modules * layout.segs * length layout.recipes
  slot_count modules = length_joined (module_slots layout) (layout.segs * count) module_size modules ∙ sym (mul_assoc (length modules) layout.segs count)

  -- ---- the slot of a number

  before_next : (seg p : ℕ) → seg < layout.segs → p < count → seg * count + p < layout.segs * count
  before_next seg p seg_lt p_lt =
      let most : suc seg * count ≤ layout.segs * count = mul-le-mul_right count (omega (arith, seg_lt)) in
      omega (arith, most, suc-mul seg count, p_lt)

  number_is : (k seg p : ℕ) → (k * layout.segs + seg) * count + p ≡ k * (layout.segs * count) + (seg * count + p)
  number_is k seg p =
      ap (λ n. n + p) (add-mul (k * layout.segs) seg count ∙ ap (λ n. n + seg * count) (mul_assoc k layout.segs count))
      ∙ add_assoc (k * (layout.segs * count)) (seg * count) p

  pub slot_at : (modules : List ModuleEntry) (k seg p : ℕ) (m : ModuleEntry) (r : Recipe) → slice_get modules k ≡ Some m → seg < layout.segs → slice_get layout.recipes p ≡ Some r
      → slice_get (slots_in modules layout) ((k * layout.segs + seg) * length layout.recipes + p) ≡ Some (slot_for m seg r)
  slot_at modules k seg p m r module_is seg_lt recipe_is =
      let p_lt = slice_get_within layout.recipes p r recipe_is in
      let seg_is : slice_get (range_with_len 0 layout.segs) seg ≡ Some seg = number_at 0 layout.segs seg seg_lt ∙ ap Some (zero-add seg) in
      ap (slice_get (slots_in modules layout)) (number_is k seg p)
      ∙ get_at (module_slots layout) (layout.segs * count) module_size modules k (seg * count + p) m module_is (before_next seg p seg_lt p_lt)
      ∙ get_at (segment_slots layout.recipes m) count (segment_size m) (range_with_len 0 layout.segs) seg p seg seg_is p_lt
      ∙ slice_get-map (slot_for m seg) layout.recipes p ∙ ap (option_map (slot_for m seg)) recipe_is

  -- ---- the number of a slot

  record IsNumber (modules : List ModuleEntry) (i : ℕ) (slot : Slot) : Type 0 where
    k : ℕ
    seg : ℕ
    p : ℕ
    m : ModuleEntry
    r : Recipe
    module_is : slice_get modules k ≡ Some m
    recipe_is : slice_get layout.recipes p ≡ Some r
    slot_is : slot ≡ slot_for m seg r
    is : i ≡ k * (layout.segs * count) + (seg * count + p)

  from_map : (f : Recipe → Slot) (o : Option Recipe) (slot : Slot) → option_map f o ≡ Some slot → (r : Recipe) × (o ≡ Some r) × (slot ≡ f r)
  from_map f None slot h = absurd cc
  from_map f (Some r) slot h = (r, refl, sym (same_Some (f r) slot h))

  number_of : (modules : List ModuleEntry) (i : ℕ) (slot : Slot) → slice_get (slots_in modules layout) i ≡ Some slot → IsNumber modules i slot
  number_of modules i slot h =
      let outer = place_in (module_slots layout) (layout.segs * count) module_size modules i slot h in
      let inner = place_in (segment_slots layout.recipes outer.x) count (segment_size outer.x) (range_with_len 0 layout.segs) outer.p slot outer.inner in
      let seg_is : inner.x ≡ inner.k = at_number 0 layout.segs inner.k inner.x inner.item ∙ zero-add inner.k in
      let last = from_map (slot_for outer.x inner.x) (slice_get layout.recipes inner.p) slot (sym (slice_get-map (slot_for outer.x inner.x) layout.recipes inner.p) ∙ inner.inner) in
      record {
        k = outer.k;
        seg = inner.k;
        p = inner.p;
        m = outer.x;
        r = last.0;
        module_is = outer.item;
        recipe_is = last.1;
        slot_is = last.2 ∙ ap (λ seg. slot_for outer.x seg last.0) seg_is;
        is = outer.is ∙ ap (λ n. outer.k * (layout.segs * count) + n) inner.is;
      }

  name_at : (modules : List ModuleEntry) (k : ℕ) (m : ModuleEntry) → slice_get modules k ≡ Some m → slice_get (module_names modules) k ≡ Some m.name
  name_at modules k m h = slice_get-map (λ x. x.name) modules k ∙ ap (option_map (λ x. x.name)) h

  pub apart : (modules : List ModuleEntry) → AreDistinct (module_names modules) → AreDistinct layout.recipes → AreDistinct (slots_in modules layout)
  apart modules names recipes i j slot at_i at_j =
      let a = number_of modules i slot at_i in
      let b = number_of modules j slot at_j in
      let slots : slot_for a.m a.seg a.r ≡ slot_for b.m b.seg b.r = sym a.slot_is ∙ b.slot_is in
      let name : a.m.name ≡ b.m.name = ap (λ s. s.name) slots in
      let k : a.k ≡ b.k = names a.k b.k b.m.name (name_at modules a.k a.m a.module_is ∙ ap Some name) (name_at modules b.k b.m b.module_is) in
      let seg : a.seg ≡ b.seg = ap (λ s. s.seg) slots in
      let r : a.r ≡ b.r = same_parts a.r b.r (ap (λ s. s.isa) slots) (ap (λ s. s.tool) slots) (ap (λ s. s.max) slots) in
      let p : a.p ≡ b.p = recipes a.p b.p b.r (a.recipe_is ∙ ap Some r) b.recipe_is in
      let whole : a.k * (layout.segs * count) + (a.seg * count + a.p) ≡ b.k * (layout.segs * count) + (b.seg * count + b.p) = rw (k, seg, p) refl in
      a.is ∙ whole ∙ sym b.is

pub slots_differ : SlotsDiffer
slots_differ modules guests elfs names = apart (layout_of guests elfs) modules names (recipes_differ guests)

-- ---- the most segments

pub numbered : SegmentsAreNumbered
numbered [] file elf h = absurd cc
numbered (x ∷ elfs) zero elf h = let e = ap (λ p. length (texts_of p)) (same_Some x elf h) in omega (arith, e)
numbered (x ∷ elfs) (suc file) elf h = omega (arith, numbered elfs file elf h)

pub most_four : (elfs : List Program) (n : ℕ) → n ≡ most_segs elfs → n ≤ 4 → most_segs elfs ≤ 4
most_four elfs n is few = omega (arith, is, few)

-- ---- one after the other

-- a slot that is appended
pub slot_more : (items before old : List Slot) (m : ModuleEntry) (seg : ℕ) (recipes : List Recipe) (i : ℕ) (r d : Recipe) (slot : Slot) → i < length recipes → r ≡ get_or recipes i d → slot ≡ slot_for m seg r
    → items ≡ before ++ slot ∷ [] → before ≡ old ++ segment_slots (take i recipes) m seg → items ≡ old ++ segment_slots (take (i + 1) recipes) m seg
slot_more items before old m seg recipes i r d slot within is made more so_far =
    more ∙ ap (λ b. b ++ slot ∷ []) so_far ∙ append_assoc old (segment_slots (take i recipes) m seg) (slot ∷ [])
    ∙ ap (λ s. old ++ (segment_slots (take i recipes) m seg ++ s ∷ [])) (made ∙ ap (slot_for m seg) is)
    ∙ ap (λ s. old ++ s) (sym (map_more (slot_for m seg) recipes i d within))

-- the slots of a segment that are appended
pub segment_more : (items before old : List Slot) (m : ModuleEntry) (seg : ℕ) (recipes asked : List Recipe) → asked ≡ recipes → items ≡ before ++ segment_slots asked m seg
    → before ≡ old ++ flat_map (segment_slots recipes m) (range_with_len 0 seg) → items ≡ old ++ flat_map (segment_slots recipes m) (range_with_len 0 (seg + 1))
segment_more items before old m seg recipes asked is more so_far =
    more ∙ ap (λ rs. before ++ segment_slots rs m seg) is ∙ ap (λ b. b ++ segment_slots recipes m seg) so_far
    ∙ append_assoc old (flat_map (segment_slots recipes m) (range_with_len 0 seg)) (segment_slots recipes m seg)
    ∙ ap (λ s. old ++ s) (sym (ap (flat_map (segment_slots recipes m)) (numbers_more seg) ∙ pieces_more (segment_slots recipes m) (range_with_len 0 seg) seg))

-- what a slot is made of is in range
pub is_slot : (n name : List ℕ) (seg base : ℕ) (r : Recipe) → n ≡ name → IsModule name base → IsRecipe r → seg < 4 → IsSlot (record { name = n; seg = seg; base = base; isa = r.isa; tool = r.tool; max = r.max })
is_slot n name seg base r is «module» recipe few = record {
  name = ap is_name is ∙ «module».spelled;
  seg = omega (arith, few);
  base = omega (arith, «module».in_range);
  some = recipe.some;
  most = recipe.most;
}
