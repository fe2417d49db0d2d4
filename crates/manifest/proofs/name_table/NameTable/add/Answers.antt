use Rattle.std.proofs.Common.{◌∙◌, ap, not}
use Rattle.manifest.proofs.Named.{had}
use Rattle.manifest.proofs.name_table.NameTable.add.Goals as goal

pub returns-clause-new : goal.returns-clause-new
returns-clause-new c = rw (← c.self.view_is) (c.in_ok-insert.ensures.added ∙ ap not (had c.self.inside.names.keys c.args.name.now c.in_ok-kept.kept c.in_ok-kept.ensures.items))
