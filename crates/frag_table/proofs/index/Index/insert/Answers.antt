use Rattle.std.proofs.Common.{◌∙◌, ap}
use Rattle.std.specs.FinMap as fin
use Rattle.frag_table.proofs.Maps.{insert_seen}
use Rattle.frag_table.proofs.index.Index.insert.Goals as goal

pub returns-clause-ok : goal.returns-clause-ok
returns-clause-ok c =
    insert_seen c.self.inside.map.entries c.insert.new.self.entries c.args.addr c.args.place c.in_ok-insert.ensures.updates.0
    ∙ ap (λ m. fin.insert m c.args.addr c.args.place) c.self.view_is
