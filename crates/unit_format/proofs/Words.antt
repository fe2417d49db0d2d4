-- The words of an image.
use Rattle.std.proofs.Common.{◌≡◌, ℕ, ◌+◌, ◌*◌, ◌<◌, ◌≤◌, true, leb, length, Some, arith}
use Rattle.std.proofs.lemmas.Bool.{le-leb, leb-true, and_from, and_parts}
use Rattle.cc_base.specs.Image.{Code}
use Rattle.fragment.specs.Build.{has_word, words_at, word_at}
use Rattle.fragment.proofs.Values.{length_words, has_of}
use Rattle.unit_format.specs.Text.{HoldsWords}

pub length-words_at : (image : Code) (x n : ℕ) → length (words_at image x n) ≡ n
length-words_at image x n = length_words image x n

-- each of n words that an image holds is wholly in it
pub each_is_there : (image : Code) (x n i : ℕ) → HoldsWords image x n → i < n → has_word image (x + 4 * i) ≡ true
each_is_there image x n i holds lt =
    and_from (leb image.start (x + 4 * i)) (leb (x + 4 * i + 4) (image.start + length image.bytes)) (le-leb _ _ (omega (arith, holds.from))) (le-leb _ _ (omega (arith, holds.to, lt)))

pub is_within : (image : Code) (x w : ℕ) → word_at image x ≡ Some w → (image.start ≤ x) × (x + 4 ≤ image.start + length image.bytes)
is_within image x w h =
    let both = and_parts (leb image.start x) (leb (x + 4) (image.start + length image.bytes)) (has_of image x h) in
    (leb-true _ _ both.0, leb-true _ _ both.1)
