use Rattle.std.proofs.Common.{◌≡◌, ◌∙◌, sym, ap}
use Rattle.std.specs.FinMap as fin
use Rattle.std.specs.BTreeMap.{keys}
use Rattle.merge_pass.proofs.Members.{entries-sorted, keys-sorted, if_ok}
use Rattle.merge_pass.proofs.segments.Segments.numbers.Goals as goal

pub returns : goal.returns
returns c = if_ok c.numbers_in.result (λ v is. is ∙ sym (keys-sorted c.self.inside.map.entries c.len.ensures.ordered) ∙ ap fin.keys c.self.view_is) c.numbers_in.ensures
