use Rattle.std.proofs.Common.{◌≡◌, ap, ◌∙◌, set, sym, subst, IfOk, []}
use Rattle.registry.specs.State.{SlotState}
use Rattle.registry.specs.Registry.{attached, no_state}
use Rattle.registry.specs.Holds.{IsGeneration}
use Rattle.registry.proofs.Lists.{set_is, read_is, ok_from}
use Rattle.registry.proofs.slots.attach_at.Goals as goal

pub returns-clause-new : goal.returns-clause-new
returns-clause-new c =
    ok_from c.attach.result (c.attach.new.self ≡ attached (record { slot = c.args.name.now; image = c.args.image; addrs = [] }) c.index_mut-state.result.now) _ _ c.attach.ensures.slot
    (λ e. ap (λ (x : SlotState). set c.args.slots.now.items c.args.slot x) e
    ∙ set_is (attached (record { slot = c.args.name.now; image = c.args.image; addrs = [] })) c.args.slots.now.items c.args.slot c.index_mut-state.result.now c.requires.there c.index_mut-state.ensures.value)

pub returns-clause-told : goal.returns-clause-told
returns-clause-told c =
    subst (λ (x : SlotState). IfOk c.attach.result (IsGeneration (record { slot = c.args.name.now; image = c.args.image; addrs = [] }) x.generations))
    (sym (read_is c.args.slots.now.items c.args.slot c.index_mut-state.result.now no_state c.requires.there c.index_mut-state.ensures.value)) c.attach.ensures.told
