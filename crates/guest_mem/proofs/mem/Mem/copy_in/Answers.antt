use Rattle.guest_mem.proofs.MemoryLemmas.{kept}
use Rattle.guest_mem.proofs.mem.Mem.copy_in.Goals as goal

pub invariant_of-self : goal.invariant_of-self
invariant_of-self c = kept c.self.inside.regions.items c.put.new.regions.items c.args.addr c.args.bytes.now c.put.result c.self.inside.total c.put.ensures.becomes c.self.invariant
