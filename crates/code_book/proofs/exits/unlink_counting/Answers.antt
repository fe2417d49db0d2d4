use Rattle.std.proofs.Common.{◌∙◌, ap}
use Rattle.std.specs.Prelude.{not}
use Rattle.std.specs.FinMap as fin
use Rattle.exit_links.specs.Linked.{leads_to}
use Rattle.code_book.proofs.Unlinking.{unlinked}
use Rattle.code_book.proofs.exits.unlink_counting.Goals as goal

pub returns-clause-leads : goal.returns-clause-leads
returns-clause-leads g c = λ x.
    ap (λ l. fin.get l.pairs x) c.unlink_into.ensures.pairs
    ∙ ap (λ l. fin.get (fin.retain_keys l.pairs (λ y. not (leads_to (fin.get l.pairs y) c.args.place))) x) c.unlink_from.ensures
    ∙ unlinked c.args.links.now.pairs c.args.place x
