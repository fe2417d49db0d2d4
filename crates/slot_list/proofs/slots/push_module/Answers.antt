use Rattle.std.proofs.Common.{ap, ◌∙◌}
use Rattle.slot_list.proofs.Numbers.{segment_more}
use Rattle.slot_list.proofs.slots.push_module.Goals as goal

pub loop-seg-preserved : goal.loop-seg-preserved
loop-seg-preserved c = record {
  slots = segment_more _ c.loop-seg.slots.items c.args.slots.now.items c.args.module.now c.loop-seg.seg c.args.layout.now.recipes c.deref.result.now
      (c.deref.ensures.value ∙ ap (λ l. l.recipes) c.layout.view_is) c.in_ok-push_segment.ensures.slots c.loop-seg.invariant.slots;
  spelled = c.in_ok-push_segment.ensures.spelled;
}
