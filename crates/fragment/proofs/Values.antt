-- The block that is built, as a value and as a relation.
use Rattle.std.proofs.Common.{◌≡◌, ℕ, zero, suc, ◌+◌, ◌-◌, ◌*◌, ◌%◌, ◌<◌, ◌≤◌, ◌==◌, ◌⊎◌, ◌||◌, not, Bool, true, false, length, get_or, Some, None, refl, sym, ◌∙◌, ap, subst, arith, inl, inr}
use Rattle.std.proofs.lemmas.Bool.{cases_Bool}
use Rattle.std.proofs.lemmas.Bool.Decides.{nat_tests}
use Rattle.std.proofs.lemmas.List.{ext_get_or}
use Rattle.std.proofs.lemmas.List.FromFn.{length-map-range_with_len, get_or-map-range_with_len}
use Rattle.std.proofs.lemmas.Option.{same_Some}
use Rattle.cc_base.specs.Image.{Code}
use Rattle.rv_decode.specs.declared.ins.Isa.{Isa}
use Rattle.rv_decode.specs.Table.{instruction}
use Rattle.plain_machine.specs.Cut.{ends_block}
use Rattle.probe_tools.specs.declared.tool.Tool.{Tool}
use Rattle.fragment.specs.Parts.{Parts}
use Rattle.fragment.specs.Exits.{exits_of}
use Rattle.fragment.specs.Build.{word_at, word_in, has_word, words_at, last, may_end, size_at, block_of, built, IsBuilt}
use Rattle.fragment.specs.Laws.{BuiltIsBuilt, NoneIsBuilt, BlocksAreUnique, OwnSizeIsEnough}
use Rattle.fragment.proofs.Least.{least_is, least_low, least_high, least_fails, least_ends}

-- ---- words

pub length_words : (code : Code) (x n : ℕ) → length (words_at code x n) ≡ n
length_words code x n = length-map-range_with_len (λ i. word_in code (x + 4 * i)) 0 n

pub each_word : (code : Code) (x n i : ℕ) → i < n → get_or (words_at code x n) i 0 ≡ word_in code (x + 4 * i)
each_word code x n i h = get_or-map-range_with_len (λ j. word_in code (x + 4 * j)) 0 n i i 0 h (omega arith)

pub there_is : (code : Code) (x : ℕ) → has_word code x ≡ true → word_at code x ≡ Some (word_in code x)
there_is code x h = rw h refl

pub has_of : (code : Code) (x : ℕ) {w : ℕ} → word_at code x ≡ Some w → has_word code x ≡ true
has_of code x e = elim (cases_Bool (has_word code x)) [
  | inl has ↦ has
  | inr lacks ↦ let impossible = rw lacks at e in absurd (cc)
]

pub value_of_word : (code : Code) (x : ℕ) {w : ℕ} → word_at code x ≡ Some w → word_in code x ≡ w
value_of_word code x {w} e = let h : has_word code x ≡ true = has_of code x e in same_Some (word_in code x) w (rw h at e)

pub lacks_of : (code : Code) (x : ℕ) → word_at code x ≡ None → has_word code x ≡ false
lacks_of code x e = elim (cases_Bool (has_word code x)) [
  | inl has ↦ let impossible = rw has at e in absurd (cc)
  | inr lacks ↦ lacks
]

-- ---- tests

any_true : (a b : Bool) → (a || b || true) ≡ true
any_true true b = refl
any_true false true = refl
any_true false false = refl

parts_or : (a b c : Bool) → (a || b || c) ≡ false → (a ≡ false) × (b ≡ false) × (c ≡ false)
parts_or true b c h = absurd (cc)
parts_or false true c h = absurd (cc)
parts_or false false c h = (refl, refl, h)

one_or : (a b c : Bool) → (a || b || c) ≡ true → (a ≡ true) ⊎ ((b ≡ true) ⊎ (c ≡ true))
one_or true b c h = inl refl
one_or false true c h = inr (inl refl)
one_or false false c h = inr (inr h)

not_false : (b : Bool) → not b ≡ false → b ≡ true
not_false true h = refl
not_false false h = absurd (cc)

not_true : (b : Bool) → not b ≡ true → b ≡ false
not_true true h = absurd (cc)
not_true false h = refl

-- ---- a block that is built is the value

module _ (code : Code) (isa : Isa) (tool : Tool) (max : ℕ) (block : Parts) (is : IsBuilt code isa tool max block) where
  word_is : (i : ℕ) → i < length block.words → word_in code (block.address + 4 * i) ≡ get_or block.words i 0
  word_is i h = value_of_word code (block.address + 4 * i) (is.words i h)

  goes_on : (j : ℕ) → 1 ≤ j → j < length block.words → may_end code block.address isa max j ≡ false
  goes_on j low high =
      let inner : ends_block (instruction isa (get_or block.words (j - 1) 0)) ≡ false = is.inner (j - 1) (omega arith) in
      let here : ends_block (instruction isa (word_in code (block.address + 4 * (j - 1)))) ≡ false = ap (λ w. ends_block (instruction isa w)) (word_is (j - 1) (omega arith)) ∙ inner in
      let more : has_word code (block.address + 4 * j) ≡ true = has_of code (block.address + 4 * j) (is.words j high) in
      let room : (j == max) ≡ false = let h = is.at_most in grind (arith, nat_tests) in
      rw (here, room, more) refl

  stops : (length block.words ≡ max → ⊥) → may_end code block.address isa max (length block.words) ≡ true
  stops not_full = elim is.stopped [
    | inl ends ↦
        let here : ends_block (instruction isa (word_in code (block.address + 4 * (length block.words - 1)))) ≡ true =
        ap (λ w. ends_block (instruction isa w)) (word_is (length block.words - 1) (omega (arith, is.not_empty))) ∙ ends in
        rw here refl
    | inr (inl full) ↦ absurd (not_full full)
    | inr (inr none) ↦
        let lacks : has_word code (block.address + 4 * length block.words) ≡ false = lacks_of code (block.address + 4 * length block.words) none in
        rw lacks (any_true (ends_block (instruction isa (word_in code (block.address + 4 * (length block.words - 1))))) (length block.words == max))
  ]

  size_is : 0 < max → size_at code block.address isa max ≡ length block.words
  unfolding size_at
  size_is some = least_is (may_end code block.address isa max) 1 (max - 1) (length block.words) (omega (arith, is.not_empty)) (omega (arith, is.at_most))
      goes_on (λ not_last. stops (λ e. not_last (omega arith)))

  words_are : words_at code block.address (length block.words) ≡ block.words
  words_are = ext_get_or 0 (words_at code block.address (length block.words)) block.words (length_words code block.address (length block.words))
      (λ i h. let less : i < length block.words = omega (arith, length_words code block.address (length block.words)) in each_word code block.address (length block.words) i less ∙ word_is i less)

  is_value : 0 < max → built code block.address isa tool max ≡ Some block
  unfolding built
  is_value some =
      let first : has_word code block.address ≡ true = subst (λ x. has_word code x ≡ true) (omega arith) (has_of code (block.address + 4 * 0) (is.words 0 is.not_empty)) in
      let even : (block.address % 4 == 0) ≡ true = rw is.aligned refl in
      let words : words_at code block.address (size_at code block.address isa max) ≡ block.words = ap (words_at code block.address) (size_is some) ∙ words_are in
      rw (even, first) (ap (λ ws. Some (block_of block.address isa tool ws)) words
      ∙ ap (λ ps. Some (record block { probes = ps; exits = exits_of (block.address + 4 * (length block.words - 1)) (instruction isa (last block.words)) })) (sym is.probes)
      ∙ ap (λ es. Some (record block { exits = es })) (sym is.exits))

-- ---- and the value is built

module _ (code : Code) (a : ℕ) (isa : Isa) (max : ℕ) where
  abbrev n : ℕ
  n = size_at code a isa max

  abbrev test : ℕ → Bool
  test = may_end code a isa max

  -- the block has one word at least
  pub size-low : 1 ≤ n
  unfolding size_at
  size-low = least_low test 1 (max - 1)

  -- and max at most
  pub size-high : 0 < max → n ≤ max
  unfolding size_at
  size-high some = omega (arith, least_high test 1 (max - 1))

  n_fails : (j : ℕ) → 1 ≤ j → j < n → test j ≡ false
  unfolding size_at
  n_fails j low high = least_fails test 1 (max - 1) j low high

  n_ends : 0 < max → (test n ≡ true) ⊎ (n ≡ max)
  unfolding size_at
  n_ends some = elim (least_ends test 1 (max - 1)) [ inl ends ↦ inl ends | inr full ↦ inr (omega arith) ]

  -- its words are all in the code
  pub has_all : has_word code a ≡ true → (i : ℕ) → i < n → has_word code (a + 4 * i) ≡ true
  has_all first zero h = subst (λ x. has_word code x ≡ true) (omega arith) first
  has_all first (suc i) h = not_false (has_word code (a + 4 * suc i)) (parts_or (ends_block (instruction isa (word_in code (a + 4 * (suc i - 1))))) (suc i == max) (not (has_word code (a + 4 * suc i))) (n_fails (suc i) (omega arith) h)).2

  is_built : (tool : Tool) → 0 < max → has_word code a ≡ true → a % 4 ≡ 0 → IsBuilt code isa tool max (block_of a isa tool (words_at code a n))
  is_built tool some first aligned =
      let low : 1 ≤ n = size-low in
      let high : n ≤ max = size-high some in
      let long : length (words_at code a n) ≡ n = length_words code a n in
      record {
        aligned = aligned;
        not_empty = omega arith;
        at_most = omega arith;
        words = λ i h. let less : i < n = omega arith in there_is code (a + 4 * i) (has_all first i less) ∙ ap Some (sym (each_word code a n i less));
        inner = λ i h.
            let less : i + 1 < n = omega arith in
            let e : i + 1 - 1 ≡ i = omega arith in
            let failed = parts_or (ends_block (instruction isa (word_in code (a + 4 * (i + 1 - 1))))) (i + 1 == max) (not (has_word code (a + 4 * (i + 1)))) (n_fails (i + 1) (omega arith) less) in
            ap (λ w. ends_block (instruction isa w)) (each_word code a n i (omega arith) ∙ ap (λ k. word_in code (a + 4 * k)) (sym e)) ∙ failed.0;
        stopped = elim (n_ends some) [
          | inl ends ↦ elim (one_or (ends_block (instruction isa (word_in code (a + 4 * (n - 1))))) (n == max) (not (has_word code (a + 4 * n))) ends) [
            | inl by_word ↦
                let e : length (words_at code a n) - 1 ≡ n - 1 = omega arith in
                inl (ap (λ w. ends_block (instruction isa w)) (ap (λ k. get_or (words_at code a n) k 0) e ∙ each_word code a n (n - 1) (omega arith)) ∙ by_word)
            | inr (inl full) ↦ inr (inl (long ∙ grind (arith, nat_tests)))
            | inr (inr none) ↦ inr (inr (ap (λ k. word_at code (a + 4 * k)) long ∙ rw (not_true (has_word code (a + 4 * n)) none) refl))
          ]
          | inr full ↦ inr (inl (omega arith))
        ];
        probes = refl;
        exits = refl;
      }

pub value-built : (code : Code) (a : ℕ) (isa : Isa) (tool : Tool) (max : ℕ) (block : Parts) → 0 < max → built code a isa tool max ≡ Some block → IsBuilt code isa tool max block × (block.address ≡ a)
unfolding built
value-built code a isa tool max block some is = elim (cases_Bool (a % 4 == 0)) [
  | inl even ↦ elim (cases_Bool (has_word code a)) [
    | inl first ↦
        let same : Some (block_of a isa tool (words_at code a (size_at code a isa max))) ≡ Some block = rw (even, first) at is in
        let one : block_of a isa tool (words_at code a (size_at code a isa max)) ≡ block = same_Some (block_of a isa tool (words_at code a (size_at code a isa max))) block same in
        (subst (λ f. IsBuilt code isa tool max f) one (is_built code a isa max tool some first (grind (arith, nat_tests))), sym (ap (λ f. f.address) one))
    | inr lacks ↦ let impossible = rw (even, lacks) at is in absurd (cc)
  ]
  | inr odd ↦ let impossible = rw odd at is in absurd (cc)
]

-- ---- the laws

pub built-value : BuiltIsBuilt
built-value code a isa tool max block some = (
  value-built code a isa tool max block some,
  λ (is, at). subst (λ x. built code x isa tool max ≡ Some block) at (is_value code isa tool max block is some),
)

pub none-built : NoneIsBuilt
unfolding built
none-built code a isa tool max = (
  λ none. elim (cases_Bool (a % 4 == 0)) [
    | inl even ↦ elim (cases_Bool (has_word code a)) [
      | inl first ↦ let impossible = rw (even, first) at none in absurd (cc)
      | inr lacks ↦ inr (rw lacks refl)
    ]
    | inr odd ↦ inl (λ e. let impossible = rw e at odd in absurd (cc))
  ],
  λ cannot. elim cannot [
    | inl odd ↦ let failed : (a % 4 == 0) ≡ false = grind (arith, nat_tests) in rw failed refl
    | inr none ↦ let lacks : has_word code a ≡ false = lacks_of code a none in
        elim (cases_Bool (a % 4 == 0)) [ inl even ↦ rw (even, lacks) refl | inr failed ↦ rw failed refl ]
  ],
)

pub blocks_unique : BlocksAreUnique
blocks_unique code isa tool max a b some of_a of_b at =
    same_Some a b (sym (is_value code isa tool max a of_a some) ∙ ap (λ x. built code x isa tool max) at ∙ is_value code isa tool max b of_b some)

pub own_size : OwnSizeIsEnough
own_size code isa tool max block some fresh =
    let is : IsBuilt code isa tool max block = (value-built code block.address isa tool max block some fresh).0 in
    is_value code isa tool (length block.words) block (record {
      aligned = is.aligned;
      not_empty = is.not_empty;
      at_most = omega arith;
      words = is.words;
      inner = is.inner;
      stopped = inr (inl refl);
      probes = is.probes;
      exits = is.exits;
    }) is.not_empty
