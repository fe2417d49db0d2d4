use Rattle.std.proofs.Common.{◌+◌, ◌*◌, cond, Some, ◌∙◌, ap}
use Rattle.std.specs.FinMap as fin
use Rattle.probe_tools.proofs.Counting.{same_test}
use Rattle.block_ledger.proofs.Gets.{got-insert}
use Rattle.code_book.proofs.exits.link.Goals as goal

pub returns-clause-leads : goal.returns-clause-leads
returns-clause-leads c = λ x.
    let m = c.args.links.now.pairs in
    let k = 2 * c.args.from + c.args.exit in
    ap (λ l. fin.get l.pairs x) c.link.ensures ∙ got-insert m k c.args.to x ∙ ap (λ b. cond b (Some c.args.to) (fin.get m x)) (same_test x k)
