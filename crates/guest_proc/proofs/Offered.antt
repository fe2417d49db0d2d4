-- What is offered to a unit is what is built in its image.
use Rattle.std.proofs.Common.{◌≡◌, ℕ, zero, suc, ◌+◌, ◌-◌, ◌*◌, ◌<◌, ◌≤◌, ◌==◌, ◌&&◌, ◌||◌, ◌⊎◌, Bool, true, false, cond, List, [], ◌∷◌, length, get_or, Option, Some, None, refl, sym, ◌∙◌, ap, subst, arith, is_lt, inl, inr}
use Rattle.std.specs.Prelude.{T, filter, find, is_some, map, nat_le, nat_lt, not, slice_index, take}
use Rattle.std.specs.List.{All, AllByRecursion, list_any}
use Rattle.std.specs.Ordering.{nat_cmp, eq_by_cmp}
use Rattle.std.specs.FinMap as fin
use Rattle.std.specs.FinSet as set
use Rattle.std.proofs.lemmas.Bool.{cases_Bool, or_parts}
use Rattle.std.proofs.lemmas.Bool.Decides.{nat_tests}
use Rattle.std.proofs.lemmas.List.Elements.{All-nil, All-cons}
use Rattle.std.proofs.lemmas.Option.{same_Some}
use Rattle.cc_base.specs.Image.{Code}
use Rattle.rv_decode.specs.declared.ins.Isa.{Isa}
use Rattle.probe_tools.specs.declared.tool.Tool.{Tool}
use Rattle.plain_machine.specs.Region.{Area, meets}
use Rattle.plain_machine.specs.Memory.{Memory, IsMemory, AreDisjoint, as_code, code_at, code_of, has_code}
use Rattle.fragment.specs.Parts.{Parts}
use Rattle.fragment.specs.Build.{IsBuilt, IsFresh, built, has_word, word_at}
use Rattle.fragment.proofs.Values.{built-value, lacks_of, value-built}
use Rattle.unit_set.specs.Held.{addresses}
use Rattle.unit_set.specs.Sets.{IsRising}
use Rattle.block_ledger.specs.Ledger.{Blocks, Ledger, Segment, candidates, is_candidate, is_value, is_within, spells, view}
use Rattle.block_ledger.specs.Traced.{Scheme, built_in}
use Rattle.engine.proofs.KeptCode.{and_right}
use Rattle.guest_proc.specs.Fresh.{AreFresh, AreMapped, extent}
use Rattle.guest_proc.specs.Kept.{IsReady}
use Rattle.guest_proc.specs.Process.{Process}
use Rattle.guest_proc.proofs.Fetching.{Behind, behind-code}

and_left : (a b : Bool) → (a && b) ≡ true → a ≡ true
and_left true b e = refl
and_left false b e = absurd (cc)

both_true : (a b : Bool) → a ≡ true → b ≡ true → (a && b) ≡ true
both_true true b e f = f
both_true false b e f = absurd (cc)

first_two : (a b c d : Bool) → (a && b && c && d) ≡ true → (a ≡ true) × (b ≡ true)
first_two true true c d e = (refl, refl)
first_two true false c d e = absurd (cc)
first_two false b c d e = absurd (cc)

-- ---- two codes with the same words

one_word : (w : ℕ) (o : Option ℕ) → is_value w o ≡ true → o ≡ Some w
one_word w None e = absurd (cc)
one_word w (Some v) e = let same : v ≡ w = grind (arith, nat_tests) in ap Some same

spelled : (image : Code) (x : ℕ) (words : List ℕ) → spells image x words ≡ true → (i : ℕ) → i < length words → word_at image (x + 4 * i) ≡ Some (slice_index words i)
spelled image x [] e i less = absurd (omega (arith, less))
spelled image x (w ∷ words) e zero less =
    let at : x + 4 * 0 ≡ x = omega arith in
    ap (word_at image) at ∙ one_word w (word_at image x) (and_left (is_value w (word_at image x)) (spells image (x + 4) words) e)
spelled image x (w ∷ words) e (suc i) less =
    let at : x + 4 * suc i ≡ x + 4 + 4 * i = omega arith in
    let fewer : i < length words = omega (arith, less) in
    ap (word_at image) at ∙ spelled image (x + 4) words (and_right (is_value w (word_at image x)) (spells image (x + 4) words) e) i fewer

-- in the same place, one of them lacks the word that the other lacks
lacks_too : (c image : Code) (x : ℕ) → image.start ≡ c.start → length image.bytes ≡ length c.bytes → word_at c x ≡ None → word_at image x ≡ None
lacks_too c image x start size none =
    let same : has_word image x ≡ has_word c x = (λ i. nat_le (start i) x && nat_le (x + 4) (start i + size i)) in
    let off : has_word image x ≡ false = same ∙ lacks_of c x none in
    rw off refl

stopped_too : {A B : Type 0} (c image : Code) (x : ℕ) → image.start ≡ c.start → length image.bytes ≡ length c.bytes → A ⊎ (B ⊎ (word_at c x ≡ None)) → A ⊎ (B ⊎ (word_at image x ≡ None))
stopped_too c image x start size (inl a) = inl a
stopped_too c image x start size (inr (inl b)) = inr (inl b)
stopped_too c image x start size (inr (inr none)) = inr (inr (lacks_too c image x start size none))

pub same-words : (c image : Code) (isa : Isa) (tool : Tool) (max : ℕ) (f : Parts) → 0 < max → image.start ≡ c.start → length image.bytes ≡ length c.bytes → spells image f.address f.words ≡ true → IsBuilt c isa tool max f → IsFresh image isa tool max f
same-words c image isa tool max f some start size e is = (built-value image f.address isa tool max f some).1 (
  record {
    aligned = is.aligned;
    not_empty = is.not_empty;
    at_most = is.at_most;
    words = spelled image f.address f.words e;
    inner = is.inner;
    stopped = stopped_too c image (f.address + 4 * length f.words) start size is.stopped;
    probes = is.probes;
    exits = is.exits;
  },
  refl,
)

-- ---- the region of an address

common : (a : ℕ) (q r : Area) → meets a 1 q ≡ true → meets a 1 r ≡ true → meets q.start (length q.bytes) r ≡ true
common a q r one other = grind (arith, nat_tests)

-- a test that none passes is not passed by the one that is found
found_fails : (p q : Area → Bool) (xs : Memory) (x : Area) → find p xs ≡ Some x → list_any q xs ≡ false → q x ≡ false
found_fails p q [] x e none = absurd (cc)
found_fails p q (y ∷ ys) x e none = elim (cases_Bool (p y)) [
  | inl here ↦
      let is : Some y ≡ Some x = rw here at e in
      ap q (sym (same_Some y x is)) ∙ (or_parts (q y) (list_any q ys) none).0
  | inr other ↦ let rest : find p ys ≡ Some x = rw other at e in found_fails p q ys x rest (or_parts (q y) (list_any q ys) none).1
]

-- the region that is found at one address is found at each that it has
same_found : (m : Memory) (s a : ℕ) (r : Area) → AreDisjoint m → find (has_code s 1) m ≡ Some r → meets a 1 r ≡ true → find (has_code a 1) m ≡ Some r
same_found [] s a r d e met = absurd (cc)
same_found (q ∷ qs) s a r d e met = elim (cases_Bool (has_code s 1 q)) [
  | inl here ↦
      let is : Some q ≡ Some r = rw here at e in
      let same : q ≡ r = same_Some q r is in
      let runs : q.flags.execute ≡ true = and_left q.flags.execute (meets s 1 q) here in
      let its : meets a 1 q ≡ true = ap (meets a 1) same ∙ met in
      let too : has_code a 1 q ≡ true = both_true q.flags.execute (meets a 1 q) runs its in
      rw too is
  | inr other ↦
      let rest : find (has_code s 1) qs ≡ Some r = rw other at e in
      elim (cases_Bool (has_code a 1 q)) [
        | inl wrong ↦
            let both = common a q r (and_right q.flags.execute (meets a 1 q) wrong) met in
            let apart = found_fails (has_code s 1) (meets q.start (length q.bytes)) qs r rest d.0 in absurd (cc)
        | inr off ↦ rw off (same_found qs s a r d.1 rest met)
      ]
]

extent_of : (o : Option Code) (image : Code) → extent o ≡ extent (Some image) → (c : Code) × (o ≡ Some c) × (image.start ≡ c.start) × (length image.bytes ≡ length c.bytes)
extent_of None image e = absurd (cc)
extent_of (Some c) image e =
    let same = same_Some _ _ e in
    (c, refl, sym (ap (λ r. r.start) same), sym (ap (λ r. r.len) same))

within : (a start len : ℕ) → (nat_le start a && nat_lt a (start + len) || false) ≡ true → (start ≤ a) × (a < start + len)
within a start len e = (grind (arith, nat_tests), grind (arith, nat_tests))

byte_of : (a : ℕ) (r : Area) → r.start ≤ a → a < r.start + length r.bytes → meets a 1 r ≡ true
byte_of a r low high = grind (arith, nat_tests)

region_too : (m : Memory) (image c : Code) (a : ℕ) → AreDisjoint m → code_at m image.start ≡ Some c → image.start ≡ c.start → length image.bytes ≡ length c.bytes → is_within a (image ∷ []) ≡ true → code_at m a ≡ Some c
region_too m image c a d there start size e =
    let behind : Behind m image.start c = behind-code image.start m c there in
    let in_it = within a image.start (length image.bytes) e in
    let low : behind.region.start ≤ a = omega (arith, in_it.0, start, ap (λ (x : Code). x.start) behind.same) in
    let high : a < behind.region.start + length behind.region.bytes = omega (arith, in_it.1, start, size, ap (λ (x : Code). x.start) behind.same, ap (λ (x : Code). length x.bytes) behind.same) in
    ap as_code (same_found m image.start a behind.region d behind.here (byte_of a behind.region low high)) ∙ ap Some behind.same

-- ---- a block that is offered

built_there : (o : Option Code) (c : Code) (a : ℕ) (isa : Isa) (tool : Tool) (max : ℕ) (f : Parts) → o ≡ Some c → built_in o a isa tool max ≡ Some f → built c a isa tool max ≡ Some f
built_there o c a isa tool max f at e = ap (λ x. built_in x a isa tool max) (sym at) ∙ e

-- it begins at its key, and is fresh in the image
pub record IsOffered (image : Code) (isa : Isa) (tool : Tool) (max : ℕ) (e : ℕ × Parts) : Type 0 where
  pub at : e.1.address ≡ e.0
  pub fresh : IsFresh image isa tool max e.1

offered_one : (scheme : Scheme) (p : Process) (i : ℕ) (s : Segment) (e : ℕ × Parts) → 0 < scheme.max → IsMemory p.state.memory → IsReady scheme p → fin.get p.ledger.segments i ≡ Some s → view p.ledger e.0 ≡ Some e.1 → is_candidate s e ≡ true →
    IsOffered s.image p.state.cpu.isa scheme.tool scheme.max e
offered_one scheme p i s (a, f) some good ready got live is =
    let parts = first_two (is_within a (s.image ∷ [])) (spells s.image a f.words) (not (set.contains s.addresses a)) (not (set.contains s.offered a)) is in
    let inside : is_within a (s.image ∷ []) ≡ true = parts.0 in
    let spelt : spells s.image a f.words ≡ true = parts.1 in
    let code = extent_of (code_at p.state.memory s.image.start) s.image (ready.mapped i s got) in
    let at = region_too p.state.memory s.image code.0 a good.disjoint code.1 code.2 code.3 inside in
    let both = value-built code.0 a p.state.cpu.isa scheme.tool scheme.max f some (built_there (code_at p.state.memory a) code.0 a p.state.cpu.isa scheme.tool scheme.max f at (ready.fresh a f live)) in
    let here : spells s.image f.address f.words ≡ true = subst (λ x. spells s.image x f.words ≡ true) (sym both.1) spelt in
    record { at = both.1; fresh = same-words code.0 s.image p.state.cpu.isa scheme.tool scheme.max f some code.2 code.3 here both.0 }

-- ---- all of them

first_true : (a b : Bool) → T (a && b) → T a
first_true true b p = tt
first_true false b p = absurd p

second_true : (a b : Bool) → T (a && b) → T b
second_true true b p = p
second_true false b p = absurd p

less_of : (a b : ℕ) → T (is_lt (nat_cmp a b)) → a < b
less_of a b t = grind (arith, nat_tests)

-- each entry of a list is what the list `all` has at its key
abbrev AreIn : List (ℕ × Parts) → List (ℕ × Parts) → Type 0
AreIn all es = AllByRecursion (λ (e : ℕ × Parts). fin.find nat_cmp e.0 all ≡ Some e.1) es

self_tied : (a : ℕ) → eq_by_cmp nat_cmp a a ≡ true
self_tied a = grind (arith, nat_tests)

apart_tied : (a b : ℕ) → b < a → eq_by_cmp nat_cmp a b ≡ false
apart_tied a b less = grind (arith, nat_tests)

in_more : (e : ℕ × Parts) (all es : List (ℕ × Parts)) → T (fin.Entries.below_all nat_cmp e.0 es) → AreIn all es → AreIn (e ∷ all) es
in_more e all [] below is = tt
in_more e all (x ∷ es) below is =
    let less = less_of e.0 x.0 (first_true _ _ below) in (
      ap (λ t. cond t (Some e.1) (fin.find nat_cmp x.0 all)) (apart_tied x.0 e.0 less) ∙ is.0,
      in_more e all es (second_true _ _ below) is.1,
    )

all_in : (es : List (ℕ × Parts)) → T (fin.is_sorted nat_cmp es) → AreIn es es
all_in [] sorted = tt
all_in (e ∷ es) sorted = (
  ap (λ t. cond t (Some e.1) (fin.find nat_cmp e.0 es)) (self_tied e.0),
  in_more e es es (first_true _ _ sorted) (all_in es (second_true _ _ sorted)),
)

-- the keys rise from low on
abbrev RiseFrom : ℕ → List (ℕ × Parts) → Type 0
RiseFrom low [] = Unit {0}
RiseFrom low (e ∷ es) = (low ≤ e.0) × RiseFrom (e.0 + 1) es

rise_more : (low more : ℕ) (es : List (ℕ × Parts)) → low ≤ more → RiseFrom more es → RiseFrom low es
rise_more low more [] le is = tt
rise_more low more (e ∷ es) le is = (omega (arith, le, is.0), is.1)

rise_all : (low : ℕ) (es : List (ℕ × Parts)) → T (fin.is_sorted nat_cmp es) → ((x : ℕ) → suc x ≡ low → T (fin.Entries.below_all nat_cmp x es)) → (low ≡ 0 ⊎ (0 < low)) → RiseFrom low es
rise_all low [] sorted below or = tt
rise_all zero (e ∷ es) sorted below or = (omega arith, subst (λ n. RiseFrom n es) (omega arith) (rise_all (suc e.0) es (second_true _ _ sorted) (λ x same. subst (λ y. T (fin.Entries.below_all nat_cmp y es)) (omega (arith, same)) (first_true _ _ sorted)) (inr (omega arith))))
rise_all (suc n) (e ∷ es) sorted below or =
    let less = less_of n e.0 (first_true _ _ (below n refl)) in
    (omega (arith, less), subst (λ n. RiseFrom n es) (omega arith) (rise_all (suc e.0) es (second_true _ _ sorted) (λ x same. subst (λ y. T (fin.Entries.below_all nat_cmp y es)) (omega (arith, same)) (first_true _ _ sorted)) (inr (omega arith))))

rise_filter : (test : ℕ × Parts → Bool) (low : ℕ) (es : List (ℕ × Parts)) → RiseFrom low es → RiseFrom low (filter test es)
rise_filter test low [] is = tt
rise_filter test low (e ∷ es) is = elim (cases_Bool (test e)) [
  | inl here ↦ rw here (is.0, rise_filter test (e.0 + 1) es is.1)
  | inr off ↦ rw off (rise_more low (e.0 + 1) (filter test es) (omega (arith, is.0)) (rise_filter test (e.0 + 1) es is.1))
]

rise_take : (n low : ℕ) (es : List (ℕ × Parts)) → RiseFrom low es → RiseFrom low (take n es)
rise_take zero low es is = tt
rise_take (suc n) low [] is = tt
rise_take (suc n) low (e ∷ es) is = (is.0, rise_take n (e.0 + 1) es is.1)

module _ (P Q : ℕ × Parts → Type 0) (test : ℕ × Parts → Bool) (gives : (e : ℕ × Parts) → test e ≡ true → P e → Q e) where
  all_filter : (es : List (ℕ × Parts)) → AllByRecursion P es → AllByRecursion Q (filter test es)
  all_filter [] is = tt
  all_filter (e ∷ es) is = elim (cases_Bool (test e)) [
    | inl here ↦ rw here (gives e here is.0, all_filter es is.1)
    | inr off ↦ rw off (all_filter es is.1)
  ]

all_take : (Q : ℕ × Parts → Type 0) (n : ℕ) (es : List (ℕ × Parts)) → AllByRecursion Q es → AllByRecursion Q (take n es)
all_take Q zero es is = tt
all_take Q (suc n) [] is = tt
all_take Q (suc n) (e ∷ es) is = (is.0, all_take Q n es is.1)

length_take : {A : Type 0} (n : ℕ) (xs : List A) → length (take n xs) ≤ n
length_take zero xs = omega arith
length_take (suc n) [] = omega arith
length_take (suc n) (x ∷ xs) = let fewer = length_take n xs in omega (arith, fewer)

-- of some blocks that are offered, which rise
module _ (image : Code) (isa : Isa) (tool : Tool) (max : ℕ) where
  keys_of : (es : List (ℕ × Parts)) → AllByRecursion (IsOffered image isa tool max) es → addresses (map (λ e. e.1) es) ≡ map (λ e. e.0) es
  keys_of [] is = refl
  keys_of (e ∷ es) is = λ i. is.0.at i ∷ keys_of es is.1 i

  fresh_all : (es : List (ℕ × Parts)) → AllByRecursion (IsOffered image isa tool max) es → All (IsFresh image isa tool max) (map (λ e. e.1) es)
  fresh_all [] is = All-nil (IsFresh image isa tool max)
  fresh_all (e ∷ es) is = All-cons (IsFresh image isa tool max) e.1 (map (λ e. e.1) es) is.0.fresh (fresh_all es is.1)

from_low : (low : ℕ) (es : List (ℕ × Parts)) → RiseFrom low es → (i : ℕ) → i < length (map (λ (e : ℕ × Parts). e.0) es) → low ≤ slice_index (map (λ (e : ℕ × Parts). e.0) es) i
from_low low [] is i less = absurd (omega (arith, less))
from_low low (e ∷ es) is zero less = is.0
from_low low (e ∷ es) is (suc i) less =
    let fewer : i < length (map (λ (e : ℕ × Parts). e.0) es) = omega (arith, less) in
    let more = from_low (e.0 + 1) es is.1 i fewer in omega (arith, more, is.0)

keys_rise : (low : ℕ) (es : List (ℕ × Parts)) → RiseFrom low es → IsRising (map (λ e. e.0) es)
keys_rise low [] is i j less within = absurd (omega (arith, within))
keys_rise low (e ∷ es) is zero zero less within = absurd (omega (arith, less))
keys_rise low (e ∷ es) is zero (suc j) less within =
    let fewer : j < length (map (λ (e : ℕ × Parts). e.0) es) = omega (arith, within) in
    let more = from_low (e.0 + 1) es is.1 j fewer in omega (arith, more)
keys_rise low (e ∷ es) is (suc i) zero less within = absurd (omega (arith, less))
keys_rise low (e ∷ es) is (suc i) (suc j) less within = keys_rise (e.0 + 1) es is.1 i j (omega (arith, less)) (omega (arith, within))

-- what is offered of a process
pub record AreOffered (image : Code) (isa : Isa) (tool : Tool) (max : ℕ) (es : List (ℕ × Parts)) : Type 0 where
  pub keys : addresses (map (λ e. e.1) es) ≡ map (λ e. e.0) es
  pub rises : IsRising (addresses (map (λ e. e.1) es))
  pub most : length (map (λ (e : ℕ × Parts). e.1) es) ≤ 16384
  pub fresh : All (IsFresh image isa tool max) (map (λ e. e.1) es)

map_length : (es : List (ℕ × Parts)) → length (map (λ (e : ℕ × Parts). e.1) es) ≡ length es
map_length [] = refl
map_length (e ∷ es) = ap suc (map_length es)

pub candidates-offered : (scheme : Scheme) (p : Process) (i : ℕ) (s : Segment) → 0 < scheme.max → IsMemory p.state.memory → IsReady scheme p → ((a : ℕ) (f : Parts) → fin.get p.ledger.private a ≡ Some f → view p.ledger a ≡ Some f) →
    fin.get p.ledger.segments i ≡ Some s → AreOffered s.image p.state.cpu.isa scheme.tool scheme.max (candidates s p.ledger)
candidates-offered scheme p i s some good ready own got =
    let es = fin.entries p.ledger.private in
    let in_all : AreIn es es = all_in es (fin.entries_sorted p.ledger.private) in
    let each : AllByRecursion (IsOffered s.image p.state.cpu.isa scheme.tool scheme.max) (filter (is_candidate s) es) =
    all_filter (λ (e : ℕ × Parts). fin.find nat_cmp e.0 es ≡ Some e.1) (IsOffered s.image p.state.cpu.isa scheme.tool scheme.max) (is_candidate s)
    (λ e is there. offered_one scheme p i s e some good ready got (own e.0 e.1 (fin.get-entries p.ledger.private e.0 ∙ there)) is) es in_all in
    let all = all_take (IsOffered s.image p.state.cpu.isa scheme.tool scheme.max) (16384 - set.len s.offered) (filter (is_candidate s) es) each in
    let rise = rise_take (16384 - set.len s.offered) 0 (filter (is_candidate s) es) (rise_filter (is_candidate s) 0 es (rise_all 0 es (fin.entries_sorted p.ledger.private) (λ x same. absurd (omega (arith, same))) (inl refl))) in
    let keys = keys_of s.image p.state.cpu.isa scheme.tool scheme.max (candidates s p.ledger) all in
    let few = length_take (16384 - set.len s.offered) (filter (is_candidate s) es) in
    record {
      keys = keys;
      rises = subst IsRising (sym keys) (keys_rise 0 (candidates s p.ledger) rise);
      most = subst (λ n. n ≤ 16384) (sym (map_length (candidates s p.ledger))) (omega (arith, few));
      fresh = fresh_all s.image p.state.cpu.isa scheme.tool scheme.max (candidates s p.ledger) all;
    }

pub some-segment : (o : Option Segment) → is_some o ≡ true → (s : Segment) × (o ≡ Some s)
some-segment None h = absurd (cc)
some-segment (Some s) h = (s, refl)
