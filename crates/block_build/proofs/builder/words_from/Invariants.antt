use Rattle.std.proofs.Common.{◌≡◌}
use Rattle.fragment.specs.Build.{words_at}
use Rattle.fragment.specs.View.{shown}
use Rattle.block_build.proofs.builder.words_from.Given as goal

abbrev pub invariant-loop-i : goal.invariant-loop-i
invariant-loop-i l = l.words.items ≡ words_at (shown l.code) l.addr l.i
