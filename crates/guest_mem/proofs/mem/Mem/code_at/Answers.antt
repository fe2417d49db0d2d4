use Rattle.plain_machine.specs.Memory.{has_code, AreInRange}
use Rattle.guest_mem.proofs.MemoryLemmas.{found_ends}
use Rattle.guest_mem.proofs.mem.Mem.code_at.Goals as goal

pub invariant_of-result : goal.invariant_of-result
invariant_of-result c =
    let in_range : AreInRange c.deref.result.now = rw c.deref.ensures.value c.self.invariant.0.in_range in
    let ends = found_ends (has_code c.args.addr 1) c.deref.result.now c.in_ok-region.region.now in_range c.in_ok-region.ensures in
    let inside = rw (← c.region.view_is) at ends in
    record { fits = rw c.deref-2.ensures.value inside }
