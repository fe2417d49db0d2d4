use Rattle.std.proofs.Common.{◌∙◌, ap}
use Rattle.std.specs.FinMap as fin
use Rattle.merge_pass.proofs.Maps.{remove_seen}
use Rattle.merge_pass.proofs.segments.Segments.remove.Goals as goal

pub returns : goal.returns
returns c =
    remove_seen c.self.inside.map.entries c.remove.new.self.entries c.args.number c.remove.ensures.updates.0
    ∙ ap (λ m. fin.remove m c.args.number) c.self.view_is
