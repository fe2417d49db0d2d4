use Rattle.std.proofs.Common.{◌≡◌, ℕ, ◌+◌, ◌*◌, ◌%◌, ◌^◌, ◌<◌, get_or}
use Rattle.fragment.specs.Build.{word_in}
use Rattle.fragment.specs.View.{shown}
use Rattle.fragment.proofs.same.are_words.Given as goal

abbrev pub invariant-loop-word : goal.invariant-loop-word
invariant-loop-word l = record {
  place : l.place ≡ (l.addr + 4 * l.word-index) % 2 ^ 32;
  same : (k : ℕ) → k < l.word-index → get_or l.words k 0 ≡ word_in (shown l.code) (l.addr + 4 * k);
}
