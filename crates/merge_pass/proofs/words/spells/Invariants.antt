use Rattle.std.proofs.Common.{◌≡◌, ◌+◌, ◌*◌}
use Rattle.std.specs.Prelude.{drop}
use Rattle.fragment.specs.View.{shown}
use Rattle.block_ledger.specs.Ledger.{spells}
use Rattle.merge_pass.proofs.words.spells.Given as goal

abbrev pub invariant-loop-word : goal.invariant-loop-word
invariant-loop-word l = spells (shown l.fn.code) l.at (drop l.word-index l.fn.words) ≡ spells (shown l.fn.code) l.fn.addr l.fn.words
