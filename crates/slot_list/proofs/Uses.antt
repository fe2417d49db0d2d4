-- Recipes, each once, in the order in which they first stand.
use Rattle.std.proofs.Common.{◌≡◌, ℕ, zero, suc, ◌+◌, ◌<◌, ◌≤◌, Bool, true, false, not, cond, ◌&&◌, ◌||◌, List, [], ◌∷◌, ◌++◌, length, map, filter, take, get_or, Some, refl, ap, sym, ◌∙◌, arith, inl, inr, true≢false, eqb-true, eq-eqb, append-nil, nat_eq, option_map}
use Rattle.std.specs.Prelude.{slice_get}
use Rattle.std.specs.List.{list_any, AllByRecursion}
use Rattle.std.proofs.lemmas.Bool.{cases_Bool, and_parts}
use Rattle.std.proofs.lemmas.Option.{same_Some, slice_get_within, get_or_from_slice_get, slice_get-map}
use Rattle.std.proofs.lemmas.List.{map_more, length-map}
use Rattle.std.proofs.lemmas.List.Elements.{filter-append}
use Rattle.std.proofs.lemmas.Map.Views.{any-filter_same}
use Rattle.rv_decode.specs.declared.ins.Isa.{Isa}
use Rattle.rv_decode.specs.declared.ins.Isa.TheVariants.{I, Im}
use Rattle.probe_tools.specs.declared.tool.Tool.{Tool}
use Rattle.probe_tools.specs.declared.tool.Tool.TheVariants.{Blocks, Calls, Memory}
use Rattle.manifest.specs.Entries.{GuestEntry}
use Rattle.slot_list.specs.Recipe.{Recipe, same_isa, same_tool, same, first_uses, recipe_of, recipes_of}
use Rattle.slot_list.specs.Laws.{AreDistinct, RecipesAreListed}

-- ---- two that are one

isa_is : (a b : Isa) → same_isa a b ≡ true → a ≡ b
isa_is I I h = refl
isa_is I Im h = absurd cc
isa_is Im I h = absurd cc
isa_is Im Im h = refl

tool_is : (a b : Tool) → same_tool a b ≡ true → a ≡ b
tool_is Blocks Blocks h = refl
tool_is Blocks Calls h = absurd cc
tool_is Blocks Memory h = absurd cc
tool_is Calls Blocks h = absurd cc
tool_is Calls Calls h = refl
tool_is Calls Memory h = absurd cc
tool_is Memory Blocks h = absurd cc
tool_is Memory Calls h = absurd cc
tool_is Memory Memory h = refl

abbrev make : Isa → Tool → ℕ → Recipe
make isa tool max = record { isa = isa; tool = tool; max = max }

pub same_parts : (a b : Recipe) → a.isa ≡ b.isa → a.tool ≡ b.tool → a.max ≡ b.max → a ≡ b
same_parts a b i t m =
    let first : a ≡ make b.isa a.tool a.max = ap (λ x. make x a.tool a.max) i in
    let second : make b.isa a.tool a.max ≡ make b.isa b.tool a.max = ap (λ x. make b.isa x a.max) t in
    first ∙ second ∙ ap (make b.isa b.tool) m

pub same_is : (a b : Recipe) → same a b ≡ true → a ≡ b
same_is a b h =
    let parts = and_parts (same_isa a.isa b.isa && same_tool a.tool b.tool) (nat_eq a.max b.max) h in
    let enums = and_parts (same_isa a.isa b.isa) (same_tool a.tool b.tool) parts.0 in
    same_parts a b (isa_is a.isa b.isa enums.0) (tool_is a.tool b.tool enums.1) (eqb-true a.max b.max parts.1)

isa_self : (a : Isa) → same_isa a a ≡ true
isa_self I = refl
isa_self Im = refl

tool_self : (a : Tool) → same_tool a a ≡ true
tool_self Blocks = refl
tool_self Calls = refl
tool_self Memory = refl

pub same_self : (a : Recipe) → same a a ≡ true
same_self a = rw (isa_self a.isa, tool_self a.tool) (eq-eqb a.max a.max refl)

pub differs : (a b : Recipe) → same a b ≡ false → a ≡ b → ⊥
differs a b apart e = true≢false (sym (same_self a) ∙ ap (same a) e ∙ apart)

-- ---- one more

-- what passes as r is not x
kept : (x r : Recipe) → same x r ≡ false → (k : Recipe) → same k r ≡ true → not (same x k) ≡ true
kept x r is k h = let e = same_is k r h in rw (e, is) refl

abbrev without : Recipe → List Recipe → List Recipe
without x rs = filter (λ other. not (same x other)) rs

next : (x r : Recipe) (before after : List Recipe) (is among : Bool) → same x r ≡ is → list_any (λ q. same q r) before ≡ among → after ≡ cond among before (before ++ r ∷ [])
    → x ∷ without x after ≡ cond (is || list_any (λ q. same q r) (without x before)) (x ∷ without x before) ((x ∷ without x before) ++ r ∷ [])
next x r before after true true is among e = ap (λ l. x ∷ without x l) e
next x r before after true false is among e =
    let gone : without x (r ∷ []) ≡ [] = rw is refl in
    ap (λ l. x ∷ l) (ap (without x) e ∙ filter-append (λ other. not (same x other)) before (r ∷ []) ∙ ap (λ l. without x before ++ l) gone ∙ append-nil (without x before))
next x r before after false true is among e =
    let stays : list_any (λ q. same q r) (without x before) ≡ true = any-filter_same (λ q. same q r) (λ other. not (same x other)) true (kept x r is) before ∙ among in
    rw stays (ap (λ l. x ∷ without x l) e)
next x r before after false false is among e =
    let stays : list_any (λ q. same q r) (without x before) ≡ false = any-filter_same (λ q. same q r) (λ other. not (same x other)) true (kept x r is) before ∙ among in
    let there : without x (r ∷ []) ≡ r ∷ [] = rw is refl in
    rw stays (ap (λ l. x ∷ l) (ap (without x) e ∙ filter-append (λ other. not (same x other)) before (r ∷ []) ∙ ap (λ l. without x before ++ l) there))

-- the recipes with one use more
pub use_more : (rs : List Recipe) (r : Recipe) → first_uses (rs ++ r ∷ []) ≡ cond (list_any (λ q. same q r) (first_uses rs)) (first_uses rs) (first_uses rs ++ r ∷ [])
use_more [] r = refl
use_more (x ∷ rs) r = next x r (first_uses rs) (first_uses (rs ++ r ∷ [])) (same x r) (list_any (λ q. same q r) (first_uses rs)) refl refl (use_more rs r)

pub is_use : (guests : List GuestEntry) (i : ℕ) (g d : GuestEntry) → i < length guests → g ≡ get_or guests i d → list_any (λ q. same q (recipe_of g)) (recipes_of (take i guests)) ≡ true
    → recipes_of (take (i + 1) guests) ≡ recipes_of (take i guests)
is_use guests i g d within is among =
    ap first_uses (map_more recipe_of guests i d within) ∙ ap (λ x. first_uses (map recipe_of (take i guests) ++ recipe_of x ∷ [])) (sym is)
    ∙ use_more (map recipe_of (take i guests)) (recipe_of g) ∙ ap (λ b. cond b (recipes_of (take i guests)) (recipes_of (take i guests) ++ recipe_of g ∷ [])) among

pub new_use : (guests : List GuestEntry) (i : ℕ) (g d : GuestEntry) → i < length guests → g ≡ get_or guests i d → list_any (λ q. same q (recipe_of g)) (recipes_of (take i guests)) ≡ false
    → recipes_of (take (i + 1) guests) ≡ recipes_of (take i guests) ++ recipe_of g ∷ []
new_use guests i g d within is among =
    ap first_uses (map_more recipe_of guests i d within) ∙ ap (λ x. first_uses (map recipe_of (take i guests) ++ recipe_of x ∷ [])) (sym is)
    ∙ use_more (map recipe_of (take i guests)) (recipe_of g) ∙ ap (λ b. cond b (recipes_of (take i guests)) (recipes_of (take i guests) ++ recipe_of g ∷ [])) among

-- ---- each once

passing : (p : Recipe → Bool) (P : Recipe → Type 0) (xs : List Recipe) → AllByRecursion P xs → AllByRecursion P (filter p xs)
passing p P [] h = tt
passing p P (x ∷ xs) h = elim (p x) as (λ b. AllByRecursion P (cond b (x ∷ filter p xs) (filter p xs))) [
  | true ↦ (h.0, passing p P xs h.1)
  | false ↦ passing p P xs h.1
]

others : (x : Recipe) (xs : List Recipe) → AllByRecursion (λ y. x ≡ y → ⊥) (without x xs)
others x [] = tt
others x (y ∷ ys) = elim (cases_Bool (same x y)) [
  | inl one ↦ rw one (others x ys)
  | inr apart ↦ rw apart (differs x y apart, others x ys)
]

abbrev EachOnce : List Recipe → Type 0
EachOnce [] = Unit {0}
EachOnce (x ∷ xs) = AllByRecursion (λ y. x ≡ y → ⊥) xs × EachOnce xs

once_passing : (p : Recipe → Bool) (xs : List Recipe) → EachOnce xs → EachOnce (filter p xs)
once_passing p [] h = tt
once_passing p (x ∷ xs) h = elim (p x) as (λ b. EachOnce (cond b (x ∷ filter p xs) (filter p xs))) [
  | true ↦ (passing p (λ y. x ≡ y → ⊥) xs h.0, once_passing p xs h.1)
  | false ↦ once_passing p xs h.1
]

once_first : (rs : List Recipe) → EachOnce (first_uses rs)
once_first [] = tt
once_first (r ∷ rs) = (others r (first_uses rs), once_passing (λ other. not (same r other)) (first_uses rs) (once_first rs))

not_there : (x : Recipe) (xs : List Recipe) (i : ℕ) → AllByRecursion (λ y. x ≡ y → ⊥) xs → slice_get xs i ≡ Some x → ⊥
not_there x [] i h at = absurd cc
not_there x (y ∷ ys) zero h at = h.0 (sym (same_Some y x at))
not_there x (y ∷ ys) (suc i) h at = not_there x ys i h.1 at

distinct : (xs : List Recipe) → EachOnce xs → AreDistinct xs
distinct [] h i j x a b = absurd cc
distinct (y ∷ ys) h zero zero x a b = refl
distinct (y ∷ ys) h zero (suc j) x a b = absurd (not_there y ys j h.0 (b ∙ sym a))
distinct (y ∷ ys) h (suc i) zero x a b = absurd (not_there y ys i h.0 (a ∙ sym b))
distinct (y ∷ ys) h (suc i) (suc j) x a b = ap suc (distinct ys h.1 i j x a b)

pub recipes_differ : (guests : List GuestEntry) → AreDistinct (recipes_of guests)
recipes_differ guests = distinct (recipes_of guests) (once_first (map recipe_of guests))

-- ---- none is left out

abbrev IsIn : Recipe → List Recipe → Type 0
IsIn x xs = (k : ℕ) × (slice_get xs k ≡ Some x)

stays_in : (p : Recipe → Bool) (x : Recipe) (xs : List Recipe) (k : ℕ) → p x ≡ true → slice_get xs k ≡ Some x → IsIn x (filter p xs)
stays_in p x [] k h at = absurd cc
stays_in p x (y ∷ ys) zero h at = let here : p y ≡ true = ap p (same_Some y x at) ∙ h in rw here (0, at)
stays_in p x (y ∷ ys) (suc k) h at =
    let rest = stays_in p x ys k h at in
    elim (p y) as (λ b. IsIn x (cond b (y ∷ filter p ys) (filter p ys))) [
      | true ↦ (suc rest.0, rest.1)
      | false ↦ rest
    ]

in_uses : (rs : List Recipe) (k : ℕ) (r : Recipe) → slice_get rs k ≡ Some r → IsIn r (first_uses rs)
in_uses [] k r at = absurd cc
in_uses (x ∷ rs) zero r at = (0, at)
in_uses (x ∷ rs) (suc k) r at = elim (cases_Bool (same x r)) [
  | inl one ↦ (0, ap Some (same_is x r one))
  | inr apart ↦
      let rest = in_uses rs k r at in
      let stays = stays_in (λ other. not (same x other)) r (first_uses rs) rest.0 (rw apart refl) rest.1 in
      (suc stays.0, stays.1)
]

pub listed : RecipesAreListed
listed guests g guest at =
    let there = in_uses (map recipe_of guests) g (recipe_of guest) (slice_get-map recipe_of guests g ∙ ap (option_map recipe_of) at) in (
      there.0,
      slice_get_within (recipes_of guests) there.0 (recipe_of guest) there.1,
      get_or_from_slice_get (recipes_of guests) there.0 (recipe_of guest) (recipe_of guest) there.1,
    )

-- ---- not more than there are uses

fewer : (p : Recipe → Bool) (xs : List Recipe) → length (filter p xs) ≤ length xs
fewer p [] = omega arith
fewer p (x ∷ xs) = let rest = fewer p xs in elim (p x) as (λ b. length (cond b (x ∷ filter p xs) (filter p xs)) ≤ suc (length xs)) [
  | true ↦ omega (arith, rest)
  | false ↦ omega (arith, rest)
]

few_uses : (rs : List Recipe) → length (first_uses rs) ≤ length rs
few_uses [] = omega arith
few_uses (r ∷ rs) = omega (arith, fewer (λ other. not (same r other)) (first_uses rs), few_uses rs)

pub few_recipes : (guests : List GuestEntry) → length (recipes_of guests) ≤ length guests
few_recipes guests = omega (arith, few_uses (map recipe_of guests), length-map guests recipe_of)
