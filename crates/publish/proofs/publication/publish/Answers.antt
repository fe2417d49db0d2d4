use Rattle.std.proofs.Common.{◌∙◌, ap}
use Rattle.unit_set.specs.Slot.{slot_text}
use Rattle.publish.specs.declared.gates.PubErr.TheVariants.{Memory}
use Rattle.publish.proofs.Publications.{came, publish_worn, publish_refused, publish_broke, publish_went, rewrite_worn, rewrite_refused, rewrite_broke, rewrite_went}
use Rattle.publish.proofs.publication.publish.Goals as goal

pub returns-then-standing-clause-publication : goal.returns-then-standing-clause-publication
returns-then-standing-clause-publication g c = publish_worn _ _ _ _ _ c.requires

pub returns-in_err-name-clause-publication : goal.returns-in_err-name-clause-publication
returns-in_err-name-clause-publication g c = publish_refused c.from_residual.result (came _ Memory c.from_residual.ensures) _ _ _ _ _ c.requires

pub returns-in_err-bytes-clause-publication : goal.returns-in_err-bytes-clause-publication
returns-in_err-bytes-clause-publication g c = publish_refused c.from_residual-in_err-bytes.result (came _ Memory c.from_residual-in_err-bytes.ensures) _ _ _ _ _ c.requires

pub returns-in_err-run_stages-clause-publication : goal.returns-in_err-run_stages-clause-publication
returns-in_err-run_stages-clause-publication g c =
    publish_broke c.from_residual-in_err-run_stages.result _ (came _ _ c.from_residual-in_err-run_stages.ensures) _ _ _ _ _ _ _ _ _ _ _ _
    (c.items.ensures ∙ (c.in_ok-name.ensures ∙ ap slot_text c.slot.ensures)) c.free_area-area.ensures c.door-door.ensures (c.deref.ensures.value ∙ c.in_ok-bytes.ensures.items)
    c.body.ensures.range c.body.ensures.unit c.requires c.in_err-run_stages.ensures.runs

pub returns-clause-publication : goal.returns-clause-publication
returns-clause-publication g c =
    publish_went _ _ _ _ _ _ _ _ _ _ _ _ _
    (c.items.ensures ∙ (c.in_ok-name.ensures ∙ ap slot_text c.slot.ensures)) c.free_area-area.ensures c.door-door.ensures (c.deref.ensures.value ∙ c.in_ok-bytes.ensures.items) c.advance.ensures
    c.body.ensures.range c.body.ensures.unit c.requires c.in_ok-run_stages.ensures.runs

pub returns-then-standing-clause-areas : goal.returns-then-standing-clause-areas
returns-then-standing-clause-areas g c = rewrite_worn _ _ _

pub returns-in_err-name-clause-areas : goal.returns-in_err-name-clause-areas
returns-in_err-name-clause-areas g c = rewrite_refused c.from_residual.result (came _ Memory c.from_residual.ensures) _ _ _

pub returns-in_err-bytes-clause-areas : goal.returns-in_err-bytes-clause-areas
returns-in_err-bytes-clause-areas g c = rewrite_refused c.from_residual-in_err-bytes.result (came _ Memory c.from_residual-in_err-bytes.ensures) _ _ _

pub returns-in_err-run_stages-clause-areas : goal.returns-in_err-run_stages-clause-areas
returns-in_err-run_stages-clause-areas g c =
    rewrite_broke c.from_residual-in_err-run_stages.result _ (came _ _ c.from_residual-in_err-run_stages.ensures) _ _ _ _ _ _ _ _ _ _ _ _
    (c.items.ensures ∙ (c.in_ok-name.ensures ∙ ap slot_text c.slot.ensures)) c.free_area-area.ensures c.door-door.ensures (c.deref.ensures.value ∙ c.in_ok-bytes.ensures.items) c.in_err-run_stages.ensures.runs

pub returns-clause-areas : goal.returns-clause-areas
returns-clause-areas g c =
    rewrite_went _ _ _ _ _ _ _ _ _ _ _ _
    (c.items.ensures ∙ (c.in_ok-name.ensures ∙ ap slot_text c.slot.ensures)) c.free_area-area.ensures c.door-door.ensures (c.deref.ensures.value ∙ c.in_ok-bytes.ensures.items) c.in_ok-run_stages.ensures.runs
