use Rattle.std.proofs.Common.{◌≡◌, ◌<◌, drop, length, true}
use Rattle.toml.specs.View.{items_view}
use Rattle.manifest.specs.Names.{are_distinct}
use Rattle.manifest.specs.Manifest.{module_of, module_rules, module_names}
use Rattle.manifest.proofs.Walking.{IsWalk}
use Rattle.manifest.proofs.module.rows_of.Given as goal

abbrev pub invariant-loop-value : goal.invariant-loop-value
invariant-loop-value l =
    IsWalk (module_of l.files) (module_rules l.files) (λ m. m.file < length l.files) (items_view l.items) (items_view (drop l.value-index l.items)) l.rows.items l.value-index
    × (l.names ≡ module_names l.rows.items) × (are_distinct l.names ≡ true)
