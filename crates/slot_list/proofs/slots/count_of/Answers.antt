use Rattle.std.proofs.Common.{◌≡◌, length, ap, sym, ◌∙◌, rules}
use Rattle.slot_list.proofs.Numbers.{slot_count}
use Rattle.slot_list.proofs.slots.count_of.Goals as goal

pub returns : goal.returns
returns c =
    let segs : c.from.result ≡ c.args.layout.now.segs = c.from.ensures ∙ ap (λ l. l.segs) c.layout.view_is in
    let recipes : c.len.result ≡ length c.args.layout.now.recipes = let n : c.len.result ≡ length c.layout.inside.recipes.items = search rules in n ∙ ap (λ l. length l.recipes) c.layout.view_is in
    rw (segs, recipes) (sym (slot_count c.args.layout.now c.args.modules.now))
