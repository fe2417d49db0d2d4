use Rattle.std.proofs.Common.{arith, length, ◌≤◌}
use Rattle.std.proofs.lemmas.List.Elements.{All-get_or}
use Rattle.unit_set.specs.Held.{IsFreshFor}
use Rattle.unit_format.proofs.WritingLaws.{frags_done}
use Rattle.unit_format.proofs.Blocks.{is_small}
use Rattle.unit_format.proofs.Sizes.{all_stand, has_room}
use Rattle.unit_format.proofs.writing.put_fragments.Goals as goal

pub put_fragment-requires-clause-small : goal.put_fragment-requires-clause-small
put_fragment-requires-clause-small c =
    let u = c.args.u.now in
    rw c.fragment.ensures (is_small u.slot u.image c.f-item.result c.requires.slot (rw c.f-item.is (All-get_or (IsFreshFor u.slot u.image) c.frags-frags.result.now c.loop-f.f-index c.f-item.result c.loop-f-test.true c.frags-frags.ensures.fresh)))

pub put_fragment-requires-clause-room : goal.put_fragment-requires-clause-room
put_fragment-requires-clause-room c =
    rw c.fragment.ensures (omega (arith, c.requires.room, c.loop-f.invariant.1, c.loop-f.invariant.2, has_room c.args.u.now.frags c.frags-frags.result.now c.loop-f.f-index c.frags-frags.ensures.frags c.f-item.result c.loop-f-test.true c.f-item.is))

pub returns : goal.returns
returns c =
    let frags = c.args.u.now.frags in
    let all : length c.frags-frags.result.now ≤ c.loop-f.f-index = omega (arith, c.loop-f-test.false) in (
      frags_done c.args.out.now.items c.loop-f.out.items frags c.frags-frags.result.now c.loop-f.f-index c.frags-frags.ensures.frags all c.loop-f.invariant.0,
      omega (arith, c.loop-f.invariant.1, all_stand frags c.frags-frags.result.now c.loop-f.f-index c.frags-frags.ensures.frags all),
      c.loop-f.invariant.2,
    )
