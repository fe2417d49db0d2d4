use Rattle.std.proofs.Common.{◌≡◌, ◌++◌, drop, length, true}
use Rattle.toml.specs.View.{items_view}
use Rattle.manifest.specs.Names.{are_distinct}
use Rattle.manifest.specs.Manifest.{texts_in}
use Rattle.manifest.proofs.files.names_in.Given as goal

-- the names so far, and the texts of what is left
abbrev pub invariant-loop-value : goal.invariant-loop-value
invariant-loop-value l =
    (l.names ++ texts_in (items_view (drop l.value-index l.items)) ≡ texts_in (items_view l.items)) × (length l.names ≡ l.value-index) × (are_distinct l.names ≡ true)
