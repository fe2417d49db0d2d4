use Rattle.std.proofs.Common.{ap, ◌∙◌, set}
use Rattle.registry.specs.State.{SlotState}
use Rattle.registry.specs.Registry.{with_generation, one_less}
use Rattle.registry.proofs.Lists.{set_is}
use Rattle.registry.proofs.slots.detach_at.Goals as goal

pub returns : goal.returns
returns c =
    ap (λ (x : SlotState). set c.args.slots.now.items c.args.slot x) c.detach.ensures
    ∙ set_is (with_generation c.args.age one_less) c.args.slots.now.items c.args.slot c.index_mut-state.result.now c.requires.there c.index_mut-state.ensures.value
