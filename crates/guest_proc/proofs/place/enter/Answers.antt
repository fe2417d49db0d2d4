use Rattle.std.proofs.Common.{◌≡◌, ◌∙◌, ap, sym, subst}
use Rattle.plain_machine.specs.Io.{Io}
use Rattle.plain_machine.specs.Machine.{heap_from}
use Rattle.plain_machine.specs.Program.{top_of}
use Rattle.region_laws.specs.Heap.{HeapIsData}
use Rattle.guest_proc.proofs.Coming.{no-heap, stands-now}
use Rattle.guest_proc.proofs.place.enter.Goals as goal

pub returns-clause-stands : goal.returns-clause-stands
returns-clause-stands c = λ _.
    let heap : c.start_heap.new.self.heap ≡ heap_from c.top.result = ap (λ (x : Io). x.heap) c.start_heap.ensures ∙ c.heap_from.ensures in
    let inert : HeapIsData c.start_heap.new.self.heap c.args.at.now.mem = subst (λ h. HeapIsData h c.args.at.now.mem) (sym heap) (no-heap c.top.result c.args.at.now.mem) in
    stands-now c.args.elf.now c.args.base c.args.at.now.mem c.place_file.new.mem c.start_heap.new.self.heap c.in_ok-place_file.field-0 c.if-not-branch.false
    c.in_ok-place_file.ensures.placing c.in_ok-place_file.ensures.top c.in_ok-place_file.ensures.memory inert
