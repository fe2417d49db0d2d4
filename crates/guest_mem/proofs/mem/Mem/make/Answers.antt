use Rattle.std.proofs.Common.{◌≡◌}
use Rattle.plain_machine.specs.Memory.{starts_at, others}
use Rattle.guest_mem.proofs.ResizeLemmas.{without_none}
use Rattle.guest_mem.proofs.mem.Mem.make.Goals as goal

pub returns-clause-refused : goal.returns-clause-refused
returns-clause-refused c =
    let e : others c.args.self.now c.args.start ≡ c.args.self.now = without_none (starts_at c.args.start) c.args.self.now c.requires.absent in
    rw e c.add.ensures.refused
