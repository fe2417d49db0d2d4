use Rattle.std.proofs.Common.{◌≡◌, ap, ◌∙◌, set, sym, subst, IfOk}
use Rattle.unit_set.specs.Held.{addresses}
use Rattle.registry.specs.State.{Generation}
use Rattle.registry.specs.Registry.{merged, merge_reply, no_generation}
use Rattle.registry.proofs.Lists.{set_is, read_is, on_ok}
use Rattle.registry.proofs.slot.merge_in.Goals as goal

pub returns-clause-new : goal.returns-clause-new
returns-clause-new c =
    on_ok c.merge.result _ _ c.merge.ensures.new
    (λ e. ap (λ (x : Generation). set c.args.generations.now.items c.args.age x) e
    ∙ set_is (merged (addresses c.args.added.now)) c.args.generations.now.items c.args.age c.index_mut-generation.result.now c.requires.there c.index_mut-generation.ensures.value)

pub returns-clause-reply : goal.returns-clause-reply
returns-clause-reply c =
    subst (λ (x : Generation). IfOk c.merge.result (λ r. r ≡ merge_reply (addresses c.args.added.now) x))
    (sym (read_is c.args.generations.now.items c.args.age c.index_mut-generation.result.now no_generation c.requires.there c.index_mut-generation.ensures.value)) c.merge.ensures.reply
