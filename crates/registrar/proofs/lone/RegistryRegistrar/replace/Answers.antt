use Rattle.std.proofs.Common.{refl}
use Rattle.registry.specs.declared.entry.Entry.TheVariants.{Replace}
use Rattle.registry.specs.Registry.{no_unit}
use Rattle.std.proofs.lemmas.Result.{IfOk-weaker}
use Rattle.registrar.proofs.Alone.{makes, replaced}
use Rattle.registrar.proofs.lone.RegistryRegistrar.replace.Goals as goal

pub returns-clause-ok : goal.returns-clause-ok
returns-clause-ok c =
    IfOk-weaker c.replace.result _ _ (λ reply adds. makes c.args.self.now c.replace.new.self (Replace c.args.guest c.args.module c.args.file reply) no_unit adds refl) c.replace.ensures.ok

pub returns-clause-reply : goal.returns-clause-reply
returns-clause-reply c =
    IfOk-weaker c.replace.result _ _ (λ reply adds. replaced c.args.self.now c.replace.new.self c.args.guest c.args.module c.args.file reply adds) c.replace.ensures.ok
