use Rattle.std.proofs.Common.{◌∙◌, sym, ap}
use Rattle.std.specs.FinSet as set
use Rattle.merge_pass.proofs.Members.{how-many}
use Rattle.merge_pass.proofs.attached.Attached.offered_count.Goals as goal

pub returns : goal.returns
returns c = c.len.ensures.len ∙ (sym (how-many c.self.inside.offered.keys c.len.ensures.ordered) ∙ ap (λ s. set.len s.offered) c.self.view_is)
