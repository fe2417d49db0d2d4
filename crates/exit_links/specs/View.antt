-- What the fields of `Links` stand for.
use Rattle.std.specs.Prelude.{◌≡◌, ◌*◌, ◌<◌, length}
use Rattle.exit_links.specs.Leads.{pairs_of}
use Rattle.exit_links.specs.Linked.{Linked, linked}
use Rattle.exit_links.specs.declared.links.Links.TheInside.{Inside}

abbrev pub view_of : Inside → Linked
view_of a = linked a.places (pairs_of a.lists)

-- there is a list for each place, and there are two exits for each
pub record IsSized (a : Inside) : Type 0 where
  pub heads : length a.lists.lists ≡ a.places
  pub exits : a.lists.exits ≡ 2 * a.places
  pub few : 2 * a.places < 4294967296
