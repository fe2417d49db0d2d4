-- What lies in a place, as it is kept.
use Rattle.std.specs.Prelude.{true, false}
use Rattle.frag_table.specs.Held.{Held}
use Rattle.frag_table.specs.declared.held.Kept.{Kept}
use Rattle.frag_table.specs.declared.held.Kept.TheVariants.{Own, Of}

abbrev pub held_of : Kept → Held
held_of (Own f) = record { block = f; shared = false }
held_of (Of f) = record { block = f; shared = true }
