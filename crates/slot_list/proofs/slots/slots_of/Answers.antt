use Rattle.std.proofs.Common.{◌≡◌, ap, subst, sym, ◌∙◌}
use Rattle.slot_list.specs.Slots.{slots_in, slots_of}
use Rattle.slot_list.specs.Laws.{AreDistinct}
use Rattle.slot_list.proofs.slots.slots_of.Goals as goal

pub returns-clause-differ : goal.returns-clause-differ
returns-clause-differ c names =
    let whole : c.in_ok-slots_in.field-0.items ≡ slots_of c.args.modules.now c.args.guests.now c.args.elfs.now = c.in_ok-slots_in.ensures.slots ∙ ap (slots_in c.args.modules.now) c.in_ok-layout.ensures in
    subst AreDistinct (sym whole) (c.slots_differ.ensures c.args.modules.now c.args.guests.now c.args.elfs.now names)

pub returns-clause-texts_differ : goal.returns-clause-texts_differ
returns-clause-texts_differ c names = c.spellings_differ.ensures c.in_ok-slots_in.field-0.items c.in_ok-slots_in.ensures.spelled (returns-clause-differ c names)
