use Rattle.std.proofs.Common.{arith, ◌≡◌, Some, position, ap, sym, ◌∙◌, set}
use Rattle.plain_machine.specs.Memory.{starts_at, with_first, with_length, byte_count, others}
use Rattle.guest_mem.proofs.ResizeLemmas.{byte_count-without_le, set_is, made_is_resized, kept_longer}
use Rattle.guest_mem.proofs.mem.Mem.lengthen.Goals as goal

pub overflow_add-rest : goal.overflow_add-rest
overflow_add-rest c =
    let rest : c.rest_without-rest.result ≡ byte_count (others c.self.inside.regions.items c.args.start) = cc in
    omega (arith, c.self.invariant.0.limited, byte_count-without_le (starts_at c.args.start) c.self.inside.regions.items)

pub invariant_of-self-2 : goal.invariant_of-self-2
invariant_of-self-2 c =
    let at : position (starts_at c.args.start) c.self.inside.regions.items ≡ Some c.args.place = rw c.self.view_is c.requires.at in
    let made : set c.self.inside.regions.items c.args.place c.resize.new.self ≡ with_first (starts_at c.args.start) (with_length c.args.len) c.self.inside.regions.items =
    ap (set c.self.inside.regions.items c.args.place) c.in_ok-resize.ensures.ok ∙ set_is c.self.inside.regions.items c.args.start c.args.len c.args.place c.index_mut-region.result.now at c.index_mut-region.ensures.value in
    kept_longer c.self.inside.regions.items (set c.self.inside.regions.items c.args.place c.resize.new.self) c.args.start c.args.len c.args.place c.index_mut-region.result.now c.rest_without-rest.result
    at made c.self.invariant.0 (cc) c.requires.some (omega arith) (cc) (omega arith)

pub returns-clause-made : goal.returns-clause-made
returns-clause-made c =
    let at : position (starts_at c.args.start) c.self.inside.regions.items ≡ Some c.args.place = rw c.self.view_is c.requires.at in
    ap (set c.self.inside.regions.items c.args.place) c.in_ok-resize.ensures.ok ∙ set_is c.self.inside.regions.items c.args.start c.args.len c.args.place c.index_mut-region.result.now at c.index_mut-region.ensures.value ∙
    rw (← c.self.view_is) (sym (made_is_resized c.self.inside.regions.items c.args.start c.args.len c.args.place c.index_mut-region.result.now at c.requires.some))
