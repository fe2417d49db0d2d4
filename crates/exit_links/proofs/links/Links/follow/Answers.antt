use Rattle.std.proofs.Common.{◌≡◌, ◌+◌, ◌*◌, sym, ◌∙◌, ap, arith, cond, None, lt-ltb, le-ltb}
use Rattle.std.specs.FinMap.{get}
use Rattle.exit_links.proofs.Pairs.{get-pairs, past_place}
use Rattle.exit_links.proofs.links.Links.follow.Goals.{then-exit-gt1-via-then-exit-gt1, then-exit-gt1-via-else-exit-gt1+then-from-self}
use Rattle.exit_links.proofs.links.Links.follow.Goals as goal

pub returns-then-exit-gt1 : goal.returns-then-exit-gt1
returns-then-exit-gt1 c =
    let k = 2 * c.args.from + c.args.exit in let m = c.args.self.now.pairs in
    elim c.then-exit-gt1.branch [
      | then-exit-gt1-via-then-exit-gt1 w ↦ sym (ap (λ b. cond b (get m k) None) (le-ltb c.args.exit 2 (omega (arith, w.if-exit-gt1.true))))
      | then-exit-gt1-via-else-exit-gt1+then-from-self w ↦
          let none : get m k ≡ None = ap (λ l. get l.pairs k) (sym c.self.view_is) ∙ past_place c.self.inside.lists c.self.inside.places c.args.from c.args.exit c.in_range.ensures c.self.invariant.exits w.if-from-self.true in
          sym (ap (λ b. cond b (get m k) None) (lt-ltb c.args.exit 2 (omega (arith, w.if-exit-gt1.false))) ∙ none)
    ]

pub returns : goal.returns
returns c =
    let k = 2 * c.args.from + c.args.exit in let m = c.args.self.now.pairs in
    c.target.ensures ∙ sym (get-pairs c.self.inside.lists k) ∙ ap (λ l. get l.pairs k) c.self.view_is ∙ sym (ap (λ b. cond b (get m k) None) (lt-ltb c.args.exit 2 (omega (arith, c.if-exit-gt1.false))))
