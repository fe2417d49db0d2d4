use Rattle.std.proofs.Common.{◌≡◌, ◌+◌, ◌-◌, ◌*◌, true}
use Rattle.fragment.specs.Build.{has_word, least, may_end, size_at}
use Rattle.fragment.specs.View.{shown}
use Rattle.fragment.proofs.word.word_count.Given as goal

abbrev pub invariant-loop-count : goal.invariant-loop-count
invariant-loop-count l = record {
  place : l.place ≡ l.addr + 4 * (l.count - 1);
  there : has_word (shown l.code) l.place ≡ true;
  search : size_at (shown l.code) l.addr l.isa l.max ≡ least (may_end (shown l.code) l.addr l.isa l.max) l.count (l.max - l.count);
}
