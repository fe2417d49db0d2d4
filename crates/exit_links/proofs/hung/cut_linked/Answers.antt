use Rattle.std.proofs.Common.{◌≢◌, sym, subst}
use Rattle.std.specs.Prelude.{◌↔◌}
use Rattle.in_lists.specs.Lists.{IsIn}
use Rattle.in_lists.proofs.Laws.{in_cut}
use Rattle.exit_links.proofs.Leading.{in-led, one-cut}
use Rattle.exit_links.proofs.hung.cut_linked.Goals as goal

pub cut-requires : goal.cut-requires
cut-requires c = (c.requires.0, in-led c.args.lists.now c.each_in_one_list.ensures c.args.exit c.requires.0 c.requires.1)

pub returns-clause-leads : goal.returns-clause-leads
returns-clause-leads c =
    let v = c.args.lists.now in let k = c.args.exit in
    one-cut v c.cut.new.self c.each_in_one_list.ensures c.each_in_one_list-2.ensures k (λ x h. subst (λ u. IsIn u x h ↔ (IsIn v x h × (x ≢ k))) (sym c.cut.ensures) (in_cut v k x h))
