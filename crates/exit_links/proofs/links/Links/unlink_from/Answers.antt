use Rattle.std.proofs.Common.{◌≡◌, ℕ, None, ◌∙◌, ap, sym}
use Rattle.std.specs.FinMap.{get, remove}
use Rattle.exit_links.specs.Linked.{linked, exit_number}
use Rattle.exit_links.proofs.Pairs.{cut_two, no_two, past_place}
use Rattle.exit_links.proofs.links.Links.unlink_from.Goals as goal

pub returns-then-from-self : goal.returns-then-from-self
returns-then-from-self c =
    let p = c.args.from in
    ap (linked c.self.inside.places) (cut_two c.self.inside.lists c.cut.new.lists c.cut-then-from-self.new.lists p c.cut.ensures.leads c.cut-then-from-self.ensures.leads)
    ∙ ap (λ l. linked l.places (remove (remove l.pairs (exit_number p 0)) (exit_number p 1))) c.self.view_is

pub returns-else-from-self : goal.returns-else-from-self
returns-else-from-self c =
    let p = c.args.from in let m = c.args.self.now.pairs in
    let none : (e : ℕ) → get m (exit_number p e) ≡ None = λ e. ap (λ l. get l.pairs (exit_number p e)) (sym c.self.view_is) ∙ past_place c.self.inside.lists c.self.inside.places p e c.in_range.ensures c.self.invariant.exits c.if-from-self.false in
    ap (linked c.args.self.now.places) (no_two m p (none 0) (none 1))
