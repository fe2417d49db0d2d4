use Rattle.std.proofs.Common.{◌∙◌, ap, sym, arith}
use Rattle.std.specs.Prelude.{not}
use Rattle.std.specs.FinMap.{get, retain_keys}
use Rattle.exit_links.specs.Linked.{linked, leads_to}
use Rattle.exit_links.proofs.Pairs.{pairs-into, retain_all, get-pairs}
use Rattle.exit_links.proofs.links.Links.unlink_into.Goals as goal

pub returns-then-to-self-clause-pairs : goal.returns-then-to-self-clause-pairs
returns-then-to-self-clause-pairs g c =
    let to = c.args.to in
    ap (linked c.self.inside.places) (pairs-into c.self.inside.lists c.empty.new.lists to c.empty.ensures.others c.empty.ensures.gone)
    ∙ ap (λ l. linked l.places (retain_keys l.pairs (λ x. not (leads_to (get l.pairs x) to)))) c.self.view_is

pub returns-else-to-self-clause-pairs : goal.returns-else-to-self-clause-pairs
returns-else-to-self-clause-pairs g c =
    let to = c.args.to in let m = c.args.self.now.pairs in
    sym (ap (linked c.args.self.now.places) (retain_all m to (λ x q there.
    let r = c.in_range.ensures x q (sym (get-pairs c.self.inside.lists x) ∙ ap (λ l. get l.pairs x) c.self.view_is ∙ there) in omega (arith, r.1, c.self.invariant.heads, c.if-to-self.false))))
