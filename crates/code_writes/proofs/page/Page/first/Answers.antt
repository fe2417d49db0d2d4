use Rattle.std.proofs.Common.{Some, take, take_all, sym, ◌∙◌, ap, subst}
use Rattle.code_writes.specs.Block.{passes, FirstIn}
use Rattle.code_writes.proofs.Lists.{first-passed, first-met, take-more}
use Rattle.code_writes.proofs.page.Page.first.Goals.{then-is_met, else-is_met}
use Rattle.code_writes.proofs.page.Page.first.Goals as goal

pub loop-block-init : goal.loop-block-init
loop-block-init c = λ b inside. absurd inside

pub loop-block-preserved : goal.loop-block-preserved
loop-block-preserved c =
    let test = passes c.args.s.start c.args.s.len c.args.from in
    let items = c.deref-block-items.result.now in
    let i = c.loop-block.block-index in
    subst (λ l. FirstIn test l c.if-is_met.first) (sym (take-more items i _ c.loop-block-test.true)) (elim c.if-is_met.branch [
      | then-is_met w ↦ subst (FirstIn test _) (sym (w.first-is ∙ ap Some w.lesser.ensures)) (first-met test (take i items) _ c.loop-block.first (sym c.is_met.ensures ∙ w.if-is_met.true) c.loop-block.invariant)
      | else-is_met w ↦ subst (FirstIn test _) (sym w.first-is) (first-passed test (take i items) _ c.loop-block.first (sym c.is_met.ensures ∙ w.if-is_met.false) c.loop-block.invariant)
    ])

pub returns : goal.returns
returns c =
    let items = c.deref-block-items.result.now in
    subst (λ l. FirstIn (passes c.args.s.start c.args.s.len c.args.from) l c.loop-block.first) (take_all c.loop-block.block-index items c.loop-block-test.false ∙ (c.deref-block-items.ensures.value ∙ c.self.view_is)) c.loop-block.invariant
