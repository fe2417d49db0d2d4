use Rattle.std.proofs.Common.{◌∙◌}
use Rattle.manifest.proofs.Named.{has_is}
use Rattle.manifest.proofs.name_table.NameTable.has.Goals as goal

pub returns : goal.returns
returns c = rw (← c.self.view_is) (c.contains.ensures ∙ has_is c.self.inside.names.keys c.args.name.now)
