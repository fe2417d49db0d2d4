use Rattle.std.proofs.Common.{◌≡◌, ◌<◌, drop, length}
use Rattle.toml.specs.View.{items_view}
use Rattle.manifest.specs.Manifest.{guest_of, guest_rules, guest_names}
use Rattle.manifest.proofs.Walking.{IsWalk}
use Rattle.manifest.proofs.guest.rows_of.Given as goal

abbrev pub invariant-loop-value : goal.invariant-loop-value
invariant-loop-value l =
    IsWalk (guest_of l.modules) (guest_rules l.modules) (λ g. g.«module» < length l.modules) (items_view l.items) (items_view (drop l.value-index l.items)) l.rows.items l.value-index
    × (l.names ≡ guest_names l.rows.items)
