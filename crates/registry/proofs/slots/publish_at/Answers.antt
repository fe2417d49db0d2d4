use Rattle.std.proofs.Common.{ap, ◌∙◌, set}
use Rattle.registry.specs.State.{SlotState}
use Rattle.registry.specs.Registry.{published_as}
use Rattle.registry.proofs.Lists.{set_is}
use Rattle.registry.proofs.slots.publish_at.Goals as goal

pub returns : goal.returns
returns c =
    ap (λ (x : SlotState). set c.args.slots.now.items c.args.slot (published_as c.args.stamp.age c.args.stamp.version x)) c.state.view_is
    ∙ set_is (published_as c.args.stamp.age c.args.stamp.version) c.args.slots.now.items c.args.slot c.index_mut-state.result.now c.requires.there c.index_mut-state.ensures.value
