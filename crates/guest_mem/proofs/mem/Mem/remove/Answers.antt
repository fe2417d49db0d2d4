use Rattle.std.proofs.Common.{◌≡◌, arith, None, refl, sym, ◌∙◌}
use Rattle.plain_machine.specs.Memory.{starts_at, region_from}
use Rattle.guest_mem.proofs.MemoryLemmas.{none_found, taken_at, taken}
use Rattle.guest_mem.proofs.ResizeLemmas.{without_none}
use Rattle.guest_mem.proofs.mem.Mem.remove.Goals as goal

pub returns-in_default-clause-answer : goal.returns-in_default-clause-answer
returns-in_default-clause-answer c =
    let e : region_from c.args.self.now c.args.start ≡ None = rw (← c.self.view_is) (none_found (starts_at c.args.start) c.self.inside.regions.items (cc)) in
    rw e refl

pub returns-in_default-clause-rest : goal.returns-in_default-clause-rest
returns-in_default-clause-rest c =
    let e : region_from c.args.self.now c.args.start ≡ None = rw (← c.self.view_is) (none_found (starts_at c.args.start) c.self.inside.regions.items (cc)) in
    sym (without_none (starts_at c.args.start) c.args.self.now e)

pub overflow_sub-self : goal.overflow_sub-self
overflow_sub-self c =
    let kept = taken (starts_at c.args.start) c.self.inside.regions.items c.remove-region.new.self.items c.in-Some.place c.remove-region.result c.self.inside.total (cc) c.remove-region.ensures.value c.remove-region.ensures.items c.self.invariant in
    omega (arith, kept.1, c.len.ensures)

pub invariant_of-self : goal.invariant_of-self
invariant_of-self c =
    let kept = taken (starts_at c.args.start) c.self.inside.regions.items c.remove-region.new.self.items c.in-Some.place c.remove-region.result c.self.inside.total (cc) c.remove-region.ensures.value c.remove-region.ensures.items c.self.invariant in
    (kept.0, omega (arith, kept.1, c.len.ensures))

pub returns-clause-answer : goal.returns-clause-answer
returns-clause-answer c =
    let at = taken_at (starts_at c.args.start) c.self.inside.regions.items c.in-Some.place c.remove-region.result (cc) in
    rw (← c.self.view_is) (rw at.0 refl)

pub returns-clause-rest : goal.returns-clause-rest
returns-clause-rest c =
    let at = taken_at (starts_at c.args.start) c.self.inside.regions.items c.in-Some.place c.remove-region.result (cc) in
    rw (← c.self.view_is) (c.remove-region.ensures.items ∙ sym at.1)
