use Rattle.std.proofs.Common.{refl}
use Rattle.registry.specs.declared.entry.Entry.TheVariants.{Detach}
use Rattle.registry.specs.Registry.{no_unit}
use Rattle.registrar.proofs.Alone.{held, makes}
use Rattle.registrar.proofs.lone.RegistryRegistrar.detach.Goals as goal

pub detach-requires : goal.detach-requires
detach-requires c = held c.args.self.now c.args.slot c.args.age c.holds_its_own.ensures c.journal.ensures.counted c.requires

pub returns : goal.returns
returns c = makes c.args.self.now c.detach.new.self (Detach c.args.guest c.args.slot c.args.age) no_unit c.detach.ensures refl
