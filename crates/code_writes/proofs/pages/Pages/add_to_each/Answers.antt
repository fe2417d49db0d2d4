use Rattle.std.proofs.Common.{refl, ◌++◌, ◌∷◌, [], ◌∙◌, ap, cond}
use Rattle.code_writes.specs.Pages.{on_page}
use Rattle.code_writes.proofs.Paging.{on_one, on_two, not_first}
use Rattle.code_writes.proofs.Lists.{err_as}
use Rattle.code_writes.proofs.pages.Pages.add_to_each.Goals as goal

pub returns-in_err-add_to-2-clause-others : goal.returns-in_err-add_to-2-clause-others
returns-in_err-add_to-2-clause-others c = err_as c.from_residual-in_err-add_to-2.result (λ p out.
    c.in_err-add_to-2.ensures.err p ∙ c.in_ok-add_to.ensures.ok p
    ∙ ap (λ b. cond b (on_page c.args.self.now p ++ c.args.block ∷ []) (on_page c.args.self.now p)) (not_first c.args.block.addr c.args.block.len _ _ c.requires.some c.requires.short refl refl p out))

pub returns-in_ok-add_to-2-clause-ok : goal.returns-in_ok-add_to-2-clause-ok
returns-in_ok-add_to-2-clause-ok c = λ p.
    on_two c.args.block.addr c.args.block.len _ _ c.requires.some c.requires.short refl refl (λ l. l ++ c.args.block ∷ []) _ _ p _ c.if-last-first.true (c.in_ok-add_to.ensures.ok p) (c.in_ok-add_to-2.ensures.ok p)

pub returns-else-last-first-clause-ok : goal.returns-else-last-first-clause-ok
returns-else-last-first-clause-ok c = λ p.
    on_one c.args.block.addr c.args.block.len _ _ c.requires.some c.requires.short refl refl (λ l. l ++ c.args.block ∷ []) _ _ p c.if-last-first.false (c.in_ok-add_to.ensures.ok p)
