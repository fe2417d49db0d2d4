use Rattle.std.proofs.Common.{◌∙◌, ap, cond, None}
use Rattle.std.specs.Cmp.{nat_cmp_total}
use Rattle.std.specs.FinMap.{get, get-remove}
use Rattle.code_writes.proofs.Indexing.{at_same}
use Rattle.code_writes.proofs.tests.covers_anew.Goals as goal

pub cover-requires-clause-absent : goal.cover-requires-clause-absent
cover-requires-clause-absent c =
    let m = c.args.covers.now in let k = c.args.addr in
    ap (λ n. get n k) c.uncover.ensures ∙ (get-remove nat_cmp_total m k k ∙ ap (λ b. cond b None (get m k)) (at_same k))
