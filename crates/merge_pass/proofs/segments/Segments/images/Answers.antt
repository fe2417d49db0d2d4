use Rattle.std.proofs.Common.{◌≡◌, ◌∙◌, sym, ap, map}
use Rattle.std.specs.FinMap as fin
use Rattle.std.specs.Ordering.{nat_cmp}
use Rattle.block_ledger.specs.Ledger.{Segment}
use Rattle.merge_pass.proofs.Members.{values-sorted, if_ok}
use Rattle.merge_pass.proofs.segments.Segments.images.Goals as goal

pub returns : goal.returns
returns c =
    if_ok c.images_in.result (λ v is. is ∙ ap (map (λ (s : Segment). s.image)) (sym (values-sorted c.self.inside.map.entries c.len.ensures.ordered)
    ∙ ap (λ (m : fin.FinMap nat_cmp Segment). fin.values m) c.self.view_is)) c.images_in.ensures
