use Rattle.std.proofs.Common.{arith, ◌≡◌, None, Some, sym}
use Rattle.plain_machine.specs.Memory.{starts_at, region_from, others, refusal, IsMemory}
use Rattle.guest_mem.proofs.MemoryLemmas.{none_found}
use Rattle.guest_mem.proofs.ResizeLemmas.{refusal_none, some_found, without_none}
use Rattle.guest_mem.proofs.mem.Mem.resize.Goals as goal

pub make-requires : goal.make-requires
make-requires c = record {
  absent = rw (← c.self.view_is) (none_found (starts_at c.args.start) c.self.inside.regions.items (cc));
  some = omega (arith, c.if-len-eq0.false);
}

-- no region starts there, and none is to
pub returns-then-len-eq0-clause-refused : goal.returns-then-len-eq0-clause-refused
returns-then-len-eq0-clause-refused c =
    let is : IsMemory c.args.self.now = rw (← c.self.view_is) c.self.invariant.0 in
    let e : refusal (others c.args.self.now c.args.start) c.args.start c.args.len ≡ None = refusal_none c.args.self.now c.args.start c.args.len c.if-len-eq0.true (omega arith) is in
    rw e tt

pub returns-then-len-eq0-clause-made : goal.returns-then-len-eq0-clause-made
returns-then-len-eq0-clause-made c =
    let absent : region_from c.args.self.now c.args.start ≡ None = rw (← c.self.view_is) (none_found (starts_at c.args.start) c.self.inside.regions.items (cc)) in
    rw c.if-len-eq0.true (sym (without_none (starts_at c.args.start) c.args.self.now absent))

-- the region that starts there is taken away
pub returns-then-len-eq0-2-clause-refused : goal.returns-then-len-eq0-2-clause-refused
returns-then-len-eq0-2-clause-refused c =
    let is : IsMemory c.args.self.now = rw (← c.self.view_is) c.self.invariant.0 in
    let e : refusal (others c.args.self.now c.args.start) c.args.start c.args.len ≡ None = refusal_none c.args.self.now c.args.start c.args.len c.if-len-eq0-2.true (omega arith) is in
    let at = some_found (starts_at c.args.start) c.self.inside.regions.items c.in-Some.place (cc) in
    let found : region_from c.args.self.now c.args.start ≡ Some at.0 = rw (← c.self.view_is) at.1 in
    let taken = rw found at c.remove.ensures.answer in
    rw (e, taken) tt

pub returns-then-len-eq0-2-clause-made : goal.returns-then-len-eq0-2-clause-made
returns-then-len-eq0-2-clause-made c =
    let at = some_found (starts_at c.args.start) c.self.inside.regions.items c.in-Some.place (cc) in
    let found : region_from c.args.self.now c.args.start ≡ Some at.0 = rw (← c.self.view_is) at.1 in
    let taken = rw found at c.remove.ensures.answer in
    rw (taken, c.if-len-eq0-2.true) c.remove.ensures.rest
