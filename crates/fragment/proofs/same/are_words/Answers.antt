use Rattle.std.proofs.Common.{◌≡◌, ℕ, ◌+◌, ◌*◌, ◌%◌, ◌^◌, ◌<◌, ◌≤◌, ◌&&◌, true, nat_le, length, get_or, refl, sym, ◌∙◌, ap, arith}
use Rattle.std.proofs.lemmas.Bool.Decides.{nat_tests}
use Rattle.std.proofs.lemmas.List.{ext_get_or}
use Rattle.fragment.specs.Build.{has_word, word_in, words_at}
use Rattle.fragment.specs.View.{shown}
use Rattle.fragment.proofs.Values.{length_words, each_word}
use Rattle.fragment.proofs.same.are_words.Goals as goal

-- a place in the code is below 2^32
place_of : (start size x place : ℕ) → place ≡ x % 2 ^ 32 → start + size ≤ 4294967295 → (nat_le start x && nat_le (x + 4) (start + size)) ≡ true → place ≡ x
place_of start size x place is fits there = let end : x + 4 ≤ start + size = grind (arith, nat_tests) in is ∙ omega arith

pub returns-then-words-from : goal.returns-then-words-from
returns-then-words-from c = (λ no. absurd (cc), λ e. absurd (omega (arith, ap length e, length_words (shown c.args.code) c.args.addr c.args.count)))

pub returns-then-word-word_in : goal.returns-then-word-word_in
returns-then-word-word_in c =
    let i : ℕ = c.loop-word.word-index in
    let less : i < c.args.count = omega arith in
    let there : has_word (shown c.args.code) (c.args.addr + 4 * i) ≡ true = c.requires i less in
    let same : c.loop-word.place ≡ c.args.addr + 4 * i = place_of c.args.code.start (length c.args.code.bytes.now) (c.args.addr + 4 * i) c.loop-word.place c.loop-word.invariant.place c.args.code.fits there in (
      λ no. absurd (cc),
      λ e. absurd (c.if-word-word_in.true (ap (λ ws. get_or ws i 0) e ∙ each_word (shown c.args.code) c.args.addr c.args.count i less ∙ ap (word_in (shown c.args.code)) (sym same) ∙ sym c.word_in.ensures)),
    )

pub returns : goal.returns
returns c = (
  λ _. ext_get_or 0 c.args.words.now (words_at (shown c.args.code) c.args.addr c.args.count) (omega (arith, length_words (shown c.args.code) c.args.addr c.args.count))
      (λ i h. c.loop-word.invariant.same i (omega arith) ∙ sym (each_word (shown c.args.code) c.args.addr c.args.count i (omega arith))),
  λ _. refl,
)
