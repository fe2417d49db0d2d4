use Rattle.std.proofs.Common.{subst}
use Rattle.cc_base.specs.Image.{Code, FitsSegment}
use Rattle.unit_set.specs.Sets.{IsRising}
use Rattle.unit_set.specs.Slot.{Slot, IsSlot}
use Rattle.unit_set.specs.Held.{IsFreshFor}
use Rattle.std.specs.List.{All}
use Rattle.code_book.proofs.UnitBlocks.{are-blocks}
use Rattle.code_book.proofs.units.blocks_of.Goals as goal

pub returns-clause-inside : goal.returns-clause-inside
returns-clause-inside c =
    let unit = c.args.unit.now in
    are-blocks unit.slot unit.image unit.frags
    (subst (λ (s : Slot). IsSlot s) c.slot.ensures c.tell_slot.ensures)
    (subst (λ (i : Code). FitsSegment i.start i.bytes) c.image.ensures c.tell_image.ensures)
    (subst (All (IsFreshFor unit.slot unit.image)) c.frags.ensures.frags c.frags.ensures.fresh)
    (subst IsRising c.addrs.ensures.addresses c.addrs.ensures.rises)
