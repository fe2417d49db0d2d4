use Rattle.std.proofs.Common.{◌∙◌, ap, sym}
use Rattle.std.specs.FinMap as fin
use Rattle.frag_table.proofs.Maps.{get_seen}
use Rattle.frag_table.proofs.index.Index.find.Goals as goal

pub returns : goal.returns
returns c = c.copied.ensures ∙ (c.get.ensures.value ∙ (sym (get_seen c.self.inside.map.entries c.args.addr) ∙ ap (λ m. fin.get m c.args.addr) c.self.view_is))
