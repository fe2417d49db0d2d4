use Rattle.std.specs.Arc.{arc_value}
use Rattle.registry.specs.declared.entry.Entry.TheVariants.{Attach}
use Rattle.registry.specs.Content.{content_of}
use Rattle.registrar.proofs.Results.{ok_both}
use Rattle.registrar.proofs.Alone.{makes}
use Rattle.registrar.proofs.lone.RegistryRegistrar.attach.Goals as goal

pub returns-clause-ok : goal.returns-clause-ok
returns-clause-ok c =
    ok_both c.attach.result _ _ _
    (λ a adds unit. makes c.args.self.now c.attach.new.self (Attach c.args.guest c.args.slot c.args.file a.age a.version) (content_of (arc_value a.unit)) adds unit) c.attach.ensures.ok c.attach.ensures.unit
