use Rattle.std.proofs.Common.{◌≡◌, None, arith, true, eqb}
use Rattle.std.proofs.lemmas.Bool.{eq-eqb}
use Rattle.plain_machine.specs.Memory.{refusal}
use Rattle.guest_mem.proofs.ResizeLemmas.{refusal_zero}
use Rattle.guest_calls.proofs.calls.make_heap.Goals as goal

-- a heap that is empty stays so
pub returns-then-len-eq0-clause-refused : goal.returns-then-len-eq0-clause-refused
returns-then-len-eq0-clause-refused c =
    let none : refusal c.args.mem.now c.args.heap.start 0 ≡ None = refusal_zero c.args.mem.now c.args.heap.start (omega arith) c.laws.ensures.limited in
    let empty : eqb c.args.heap.start c.args.heap.end ≡ true = eq-eqb c.args.heap.start c.args.heap.end c.if-heap.false in
    rw (c.if-len-eq0.true, empty, none) tt
