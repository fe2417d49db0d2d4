use Rattle.std.proofs.Common.{◌≡◌, ap, sym, subst}
use Rattle.plain_machine.specs.Io.{Io}
use Rattle.region_laws.specs.Heap.{HeapIsData}
use Rattle.guest_proc.proofs.Coming.{stands-now}
use Rattle.guest_proc.proofs.place.place_more.Goals as goal

pub returns-clause-stands : goal.returns-clause-stands
returns-clause-stands c = λ _.
    let heap : c.mark_mapped.new.self.heap ≡ c.args.at.now.io.heap = ap (λ (x : Io). x.heap) c.in_ok-mark_mapped.ensures.ok in
    let inert : HeapIsData c.mark_mapped.new.self.heap c.args.at.now.mem = subst (λ h. HeapIsData h c.args.at.now.mem) (sym heap) c.requires.inert in
    stands-now c.args.elf.now c.args.base c.args.at.now.mem c.place_file.new.mem c.mark_mapped.new.self.heap c.in_ok-place_file.field-0 c.if-not-branch.false
    c.in_ok-place_file.ensures.placing c.in_ok-place_file.ensures.top c.in_ok-place_file.ensures.memory inert
