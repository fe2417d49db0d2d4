use Rattle.std.proofs.Common.{◌≡◌, drop}
use Rattle.toml.specs.View.{items_view}
use Rattle.manifest.specs.Keys.{is_of, each_item}
use Rattle.manifest.proofs.lists.are_of.Given as goal

abbrev pub invariant-loop-value : goal.invariant-loop-value
invariant-loop-value l = each_item (is_of l.kind) (items_view (drop l.value-index l.items)) ≡ each_item (is_of l.kind) (items_view l.items)
