use Rattle.std.proofs.Common.{◌∙◌}
use Rattle.manifest.proofs.Named.{place_is}
use Rattle.manifest.proofs.name_table.NameTable.place_of.Goals as goal

pub returns-clause-place : goal.returns-clause-place
returns-clause-place c = rw (← c.self.view_is) (c.get_index_of.ensures.index ∙ place_is c.self.inside.names.keys c.args.name.now)
