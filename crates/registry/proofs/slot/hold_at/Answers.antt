use Rattle.std.proofs.Common.{ap, ◌∙◌, sym, set}
use Rattle.unit_set.specs.Held.{Held}
use Rattle.registry.specs.Content.{content_of}
use Rattle.registry.specs.State.{Generation}
use Rattle.registry.specs.Registry.{one_more, no_generation}
use Rattle.registry.proofs.Lists.{set_is, read_is}
use Rattle.registry.proofs.slot.hold_at.Goals as goal

pub returns-clause-new : goal.returns-clause-new
returns-clause-new c =
    ap (λ (g : Generation). set c.args.generations.now.items c.args.age (one_more g)) c.generation.view_is
    ∙ set_is one_more c.args.generations.now.items c.args.age c.index_mut-generation.result.now c.requires.there c.index_mut-generation.ensures.value

pub returns-clause-version : goal.returns-clause-version
returns-clause-version c =
    ap (λ (g : Generation). g.version) (c.generation.view_is ∙ sym (read_is c.args.generations.now.items c.args.age c.index_mut-generation.result.now no_generation c.requires.there c.index_mut-generation.ensures.value))

pub returns-clause-unit : goal.returns-clause-unit
returns-clause-unit c =
    ap (λ (u : Held). content_of u) c.in_ok-unit.ensures
    ∙ ap (λ (g : Generation). g.unit) (c.generation.view_is ∙ sym (read_is c.args.generations.now.items c.args.age c.index_mut-generation.result.now no_generation c.requires.there c.index_mut-generation.ensures.value))
