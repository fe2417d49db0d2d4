-- What reading gives of each fragment.
use Rattle.std.specs.Prelude.{◌≡◌, ◌≤◌, length}
use Rattle.unit_set.specs.Raw.{Tied}

-- one link for each of its one or two exits
pub record HasLinkEach (f : Tied) : Type 0 where
  pub each : length f.links ≡ length f.frag.exits
  pub two : length f.frag.exits ≤ 2
