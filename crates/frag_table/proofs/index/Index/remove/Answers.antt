use Rattle.std.proofs.Common.{◌∙◌, ap}
use Rattle.std.specs.FinMap as fin
use Rattle.frag_table.proofs.Maps.{remove_seen}
use Rattle.frag_table.proofs.index.Index.remove.Goals as goal

pub returns : goal.returns
returns c =
    remove_seen c.self.inside.map.entries c.remove.new.self.entries c.args.addr c.remove.ensures.updates.0
    ∙ ap (λ m. fin.remove m c.args.addr) c.self.view_is
