use Rattle.std.proofs.Common.{◌≡◌, ap, ◌∙◌, set, sym, subst, IfOk}
use Rattle.unit_set.specs.Held.{addresses}
use Rattle.registry.specs.State.{SlotState}
use Rattle.registry.specs.Registry.{with_generation, generation_in, merged, merge_reply, no_state}
use Rattle.registry.proofs.Lists.{set_is, read_is, on_ok}
use Rattle.registry.proofs.slots.merge_at.Goals as goal

pub returns-clause-new : goal.returns-clause-new
returns-clause-new c =
    on_ok c.merge.result _ _ c.merge.ensures.new
    (λ e. ap (λ (x : SlotState). set c.args.slots.now.items c.args.slot x) e
    ∙ set_is (with_generation c.args.age (merged (addresses c.args.added.now))) c.args.slots.now.items c.args.slot c.index_mut-state.result.now c.requires.there c.index_mut-state.ensures.value)

pub returns-clause-reply : goal.returns-clause-reply
returns-clause-reply c =
    subst (λ (x : SlotState). IfOk c.merge.result (λ r. r ≡ merge_reply (addresses c.args.added.now) (generation_in x.generations c.args.age)))
    (sym (read_is c.args.slots.now.items c.args.slot c.index_mut-state.result.now no_state c.requires.there c.index_mut-state.ensures.value)) c.merge.ensures.reply
