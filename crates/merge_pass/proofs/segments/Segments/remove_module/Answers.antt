use Rattle.std.proofs.Common.{◌+◌, ◌*◌, ◌∙◌, ap}
use Rattle.std.specs.FinMap as fin
use Rattle.merge_pass.proofs.Removing.{four-removed}
use Rattle.merge_pass.proofs.segments.Segments.remove_module.Goals as goal

pub returns : goal.returns
returns c =
    let k = c.args.number in
    c.remove-4.ensures
    ∙ ap (λ m. fin.remove m (4 * k + 3)) (c.remove-3.ensures ∙ ap (λ m. fin.remove m (4 * k + 2)) (c.remove-2.ensures ∙ ap (λ m. fin.remove m (4 * k + 1)) c.remove.ensures))
    ∙ four-removed c.args.self.now k
