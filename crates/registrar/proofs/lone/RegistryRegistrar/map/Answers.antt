use Rattle.std.proofs.Common.{refl}
use Rattle.registry.specs.declared.entry.Entry.TheVariants.{Map}
use Rattle.registry.specs.Registry.{no_unit}
use Rattle.std.proofs.lemmas.Result.{IfOk-weaker}
use Rattle.registrar.proofs.Results.{ok_both}
use Rattle.registrar.proofs.Alone.{makes, mapped}
use Rattle.registrar.proofs.lone.RegistryRegistrar.map.Goals as goal

pub returns-clause-ok : goal.returns-clause-ok
returns-clause-ok c =
    IfOk-weaker c.map.result _ _ (λ file adds. makes c.args.self.now c.map.new.self (Map c.args.guest c.args.module file) no_unit adds refl) c.map.ensures.ok

pub returns-clause-mapped : goal.returns-clause-mapped
returns-clause-mapped c = ok_both c.map.result _ _ _ (λ file adds there. mapped c.args.self.now c.map.new.self c.args.guest c.args.module file adds there) c.map.ensures.ok c.map.ensures.file
