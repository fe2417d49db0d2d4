use Rattle.std.proofs.Common.{◌≡◌}
use Rattle.fragment.specs.Build.{words_at}
use Rattle.fragment.specs.View.{shown}
use Rattle.unit_format.proofs.fragments.words_in.Given as goal

abbrev pub invariant-loop-i : goal.invariant-loop-i
invariant-loop-i l = l.words.items ≡ words_at (shown l.image) l.address l.i
