-- What a fragment is tested for.
use Rattle.std.proofs.Common.{◌≡◌, ℕ, ◌+◌, ◌-◌, ◌*◌, ◌<◌, ◌≤◌, ◌==◌, ◌||◌, Bool, true, false, length, get_or, Some, refl, sym, ◌∙◌, ap, subst, arith, inl, inr}
use Rattle.std.proofs.lemmas.Bool.{cases_Bool}
use Rattle.std.proofs.lemmas.Bool.Decides.{nat_tests}
use Rattle.std.proofs.lemmas.Option.{same_Some}
use Rattle.cc_base.specs.Image.{Code}
use Rattle.rv_decode.specs.declared.ins.Isa.{Isa}
use Rattle.rv_decode.specs.Table.{instruction}
use Rattle.plain_machine.specs.Cut.{ends_block}
use Rattle.probe_tools.specs.declared.tool.Tool.{Tool}
use Rattle.fragment.specs.Parts.{Parts}
use Rattle.fragment.specs.Exits.{exits_of}
use Rattle.fragment.specs.Probing.{probes_of}
use Rattle.fragment.specs.Build.{word_in, has_word, words_at, last, may_end, size_at, can_build, block_of, built, IsFresh}
use Rattle.fragment.proofs.Values.{length_words, each_word, size-low}

-- a block of k words goes on
pub goes_on : (code : Code) (a : ℕ) (isa : Isa) (max k place : ℕ) → place ≡ a + 4 * (k - 1) → 1 ≤ k → k < max →
    ends_block (instruction isa (word_in code place)) ≡ false → has_word code (place + 4) ≡ true → may_end code a isa max k ≡ false
goes_on code a isa max k place at some room unended more =
    let here : ends_block (instruction isa (word_in code (a + 4 * (k - 1)))) ≡ false = subst (λ x. ends_block (instruction isa (word_in code x)) ≡ false) at unended in
    let behind : has_word code (a + 4 * k) ≡ true = subst (λ x. has_word code x ≡ true) (omega arith) more in
    let apart : (k == max) ≡ false = grind (arith, nat_tests) in
    rw (here, apart, behind) refl

-- it ends by its last word
pub ends_there : (code : Code) (a : ℕ) (isa : Isa) (max k place : ℕ) → place ≡ a + 4 * (k - 1) →
    ends_block (instruction isa (word_in code place)) ≡ true → may_end code a isa max k ≡ true
ends_there code a isa max k place at ends =
    let here : ends_block (instruction isa (word_in code (a + 4 * (k - 1)))) ≡ true = subst (λ x. ends_block (instruction isa (word_in code x)) ≡ true) at ends in
    rw here refl

any_or : (a b : Bool) → (a || b || true) ≡ true
any_or true b = refl
any_or false true = refl
any_or false false = refl

-- it ends where the code ends
pub ends_with_code : (code : Code) (a : ℕ) (isa : Isa) (max k place : ℕ) → place ≡ a + 4 * (k - 1) → 1 ≤ k →
    has_word code (place + 4) ≡ false → may_end code a isa max k ≡ true
ends_with_code code a isa max k place at some none =
    let behind : has_word code (a + 4 * k) ≡ false = subst (λ x. has_word code x ≡ false) (omega arith) none in
    rw behind (any_or (ends_block (instruction isa (word_in code (a + 4 * (k - 1))))) (k == max))

-- the exits of the built block
module _ (code : Code) (a : ℕ) (isa : Isa) (n : ℕ) (some : 1 ≤ n) where
  exits_there : exits_of (a + 4 * (length (words_at code a n) - 1)) (instruction isa (last (words_at code a n))) ≡ exits_of (a + 4 * (n - 1)) (instruction isa (word_in code (a + 4 * (n - 1))))
  exits_there =
      let long : length (words_at code a n) ≡ n = length_words code a n in
      let word : last (words_at code a n) ≡ word_in code (a + 4 * (n - 1)) = ap (λ k. get_or (words_at code a n) (k - 1) 0) long ∙ each_word code a n (n - 1) (omega arith) in
      ap (λ k. exits_of (a + 4 * (k - 1)) (instruction isa (last (words_at code a n)))) long ∙ ap (λ w. exits_of (a + 4 * (n - 1)) (instruction isa w)) word

-- the parts of the block that is built at a, which has n words
pub record AreParts (code : Code) (isa : Isa) (tool : Tool) (n : ℕ) (block : Parts) : Type 0 where
  pub words : block.words ≡ words_at code block.address n
  pub exits : block.exits ≡ exits_of (block.address + 4 * (n - 1)) (instruction isa (word_in code (block.address + 4 * (n - 1))))
  pub probes : block.probes ≡ probes_of tool isa block.words

pub parts_fresh : (code : Code) (isa : Isa) (tool : Tool) (max n : ℕ) (block : Parts) → can_build code block.address ≡ true → n ≡ size_at code block.address isa max →
    AreParts code isa tool n block → IsFresh code isa tool max block
unfolding built
parts_fresh code isa tool max n block can size are =
    let a : ℕ = block.address in
    let some : 1 ≤ n = omega (arith, size-low code block.address isa max) in
    let exits : block.exits ≡ exits_of (block.address + 4 * (length (words_at code block.address n) - 1)) (instruction isa (last (words_at code block.address n))) =
    are.exits ∙ sym (exits_there code block.address isa n some) in
    rw can (
    ap (λ k. Some (block_of block.address isa tool (words_at code block.address k))) (sym size)
    ∙ ap (λ es. Some (record (block_of block.address isa tool (words_at code block.address n)) { exits = es })) (sym exits)
    ∙ ap (λ ws. Some (record { address = block.address; words = ws; probes = probes_of tool isa ws; exits = block.exits })) (sym are.words)
    ∙ ap (λ ps. Some (record block { probes = ps })) (sym are.probes))

pub fresh_can : (code : Code) (isa : Isa) (tool : Tool) (max : ℕ) (block : Parts) → IsFresh code isa tool max block → can_build code block.address ≡ true
unfolding built
fresh_can code isa tool max block fresh = elim (cases_Bool (can_build code block.address)) [
  | inl can ↦ can
  | inr cannot ↦ let impossible = rw cannot at fresh in absurd (cc)
]

pub fresh_parts : (code : Code) (isa : Isa) (tool : Tool) (max n : ℕ) (block : Parts) → n ≡ size_at code block.address isa max → IsFresh code isa tool max block → AreParts code isa tool n block
unfolding built
fresh_parts code isa tool max n block size fresh =
    let can : can_build code block.address ≡ true = fresh_can code isa tool max block fresh in
    let same : Some (block_of block.address isa tool (words_at code block.address (size_at code block.address isa max))) ≡ Some block = rw can at fresh in
    let made : block_of block.address isa tool (words_at code block.address n) ≡ block = ap (λ k. block_of block.address isa tool (words_at code block.address k)) size
    ∙ same_Some (block_of block.address isa tool (words_at code block.address (size_at code block.address isa max))) block same in
    let words : words_at code block.address n ≡ block.words = ap (λ f. f.words) made in
    let some : 1 ≤ n = omega (arith, size-low code block.address isa max) in
    record {
      words = sym words;
      exits = sym (ap (λ f. f.exits) made) ∙ exits_there code block.address isa n some;
      probes = sym (ap (λ f. f.probes) made) ∙ ap (probes_of tool isa) words;
    }
