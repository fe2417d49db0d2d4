use Rattle.std.proofs.Common.{◌≡◌}
use Rattle.toml.specs.View.{members_view, table_view}
use Rattle.manifest.specs.Keys.{first_failing, unknown_rules}
use Rattle.manifest.proofs.tables.check_keys.Given as goal

abbrev pub invariant-loop-key : goal.invariant-loop-key
invariant-loop-key l = first_failing (unknown_rules l.place (members_view l.key-iterator)) ≡ first_failing (unknown_rules l.place (table_view l.table))
