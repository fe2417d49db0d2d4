use Rattle.std.proofs.Common.{◌∙◌, ap}
use Rattle.std.specs.FinMap as fin
use Rattle.merge_pass.proofs.Maps.{insert_seen}
use Rattle.merge_pass.proofs.segments.Segments.insert.Goals as goal

pub returns-clause-ok : goal.returns-clause-ok
returns-clause-ok c =
    insert_seen c.self.inside.map.entries c.insert.new.self.entries c.args.number c.args.segment c.in_ok-insert.ensures.updates.0
    ∙ ap (λ m. fin.insert m c.args.number c.args.segment) c.self.view_is
