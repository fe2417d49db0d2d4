use Rattle.std.proofs.Common.{refl}
use Rattle.unit_set.specs.Held.{addresses}
use Rattle.registry.specs.declared.entry.Entry.TheVariants.{Merge}
use Rattle.registry.specs.Registry.{no_unit}
use Rattle.std.proofs.lemmas.Result.{IfOk-weaker}
use Rattle.registrar.proofs.Alone.{fresh, held, makes}
use Rattle.registrar.proofs.lone.RegistryRegistrar.merge.Goals as goal

pub merge-requires-clause-held : goal.merge-requires-clause-held
merge-requires-clause-held c = held c.args.self.now c.args.slot c.args.age c.holds_its_own.ensures c.journal.ensures.counted c.requires.held

pub merge-requires-clause-fresh : goal.merge-requires-clause-fresh
merge-requires-clause-fresh c =
    let h = held c.args.self.now c.args.slot c.args.age c.holds_its_own.ensures c.journal.ensures.counted c.requires.held in
    fresh c.args.self.now c.args.slot c.args.age c.args.added.now c.attached_goes_on.ensures c.journal.ensures.replied h.slot_there c.requires.fresh

pub returns-clause-ok : goal.returns-clause-ok
returns-clause-ok c =
    IfOk-weaker c.merge.result _ _
    (λ reply adds. makes c.args.self.now c.merge.new.self (Merge c.args.guest c.args.slot c.args.age (addresses c.args.added.now) reply) no_unit adds refl) c.merge.ensures.ok
