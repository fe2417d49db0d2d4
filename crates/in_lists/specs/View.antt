-- What the fields of `InLists` stand for.
use Rattle.in_lists.specs.declared.lists.InLists.TheInside.{Inside}
use Rattle.in_lists.specs.Linked.{lists_of, IsLinked}
use Rattle.in_lists.specs.Lists.{Incoming, incoming}

abbrev pub view_of : Inside → Incoming
view_of a = incoming a.exits (lists_of a.nodes a.exits)

abbrev pub IsWhole : Inside → Type 0
IsWhole a = IsLinked a.nodes a.exits (lists_of a.nodes a.exits)
