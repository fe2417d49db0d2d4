use Rattle.std.proofs.Common.{◌∙◌, sym, ap}
use Rattle.std.specs.FinMap as fin
use Rattle.merge_pass.proofs.Maps.{get_seen}
use Rattle.merge_pass.proofs.segments.Segments.get.Goals as goal

pub returns : goal.returns
returns c = c.get.ensures.value ∙ (sym (get_seen c.self.inside.map.entries c.args.number) ∙ ap (λ m. fin.get m c.args.number) c.self.view_is)
