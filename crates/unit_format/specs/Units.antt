-- A unit as it is written: each fragment with its links, which are positions.
use Rattle.std.specs.Prelude.{ℕ, ◌≤◌, List, length, map, Option, Some, None}
use Rattle.fragment.specs.declared.Exit.{Exit}
use Rattle.fragment.specs.Parts.{Parts}
use Rattle.unit_set.specs.Raw.{Tied, Raw}
use Rattle.unit_set.specs.Held.{Held, addresses, link_at}

-- what a text has for a link
abbrev pub link_number : Option ℕ → ℕ
link_number None = 0xFFFFFFFF
link_number (Some place) = place

-- the links of exits where fragments stand at these addresses
abbrev pub links_at : List ℕ → List Exit → List ℕ
links_at addrs exits = map (λ e. link_number (link_at addrs e)) exits

abbrev pub links_in : List Parts → List Exit → List ℕ
links_in frags exits = links_at (addresses frags) exits

abbrev pub tied : List Parts → Parts → Tied
tied frags f = record { frag = f; links = links_in frags f.exits }

abbrev pub raw_of : Held → Raw
raw_of u = record { slot = u.slot; image = u.image; frags = map (tied u.frags) u.frags }

-- its numbers of words, probes and exits have a spelling
pub record IsSmall (f : Parts) : Type 0 where
  pub words : length f.words ≤ 64
  pub probes : length f.probes ≤ 64
  pub exits : length f.exits ≤ 2
