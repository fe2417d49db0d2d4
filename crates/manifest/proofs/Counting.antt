-- The values of a list, and the items that they are.
use Rattle.std.proofs.Common.{◌≡◌, ◌+◌, List, [], ◌∷◌, length, refl, ap, ◌∙◌, arith}
use Rattle.toml.specs.declared.value.Value.{Value}
use Rattle.toml.specs.View.{items_view}
use Rattle.manifest.specs.Keys.{item_count}

pub count_seen : (vs : List Value) → item_count (items_view vs) ≡ length vs
count_seen [] = refl
count_seen (v ∷ vs) = ap (λ n. n + 1) (count_seen vs) ∙ omega arith
