use Rattle.std.proofs.Common.{◌∙◌}
use Rattle.shelf_model.proofs.Moments.{then_rests}
use Rattle.publish.proofs.Loads.{load_fits}
use Rattle.publish.proofs.loading.load.Goals as goal

pub returns-in_err-synced-2-clause-time : goal.returns-in_err-synced-2-clause-time
returns-in_err-synced-2-clause-time g c = then_rests _ _ _ _ _ _ c.synced.ensures.time c.synced-2.ensures.time

pub returns-in_err-a-clause-time : goal.returns-in_err-a-clause-time
returns-in_err-a-clause-time g c =
    then_rests _ _ _ _ _ _ (then_rests _ _ _ _ _ _ c.synced.ensures.time c.synced-2.ensures.time) c.look.ensures.time

pub returns-in_err-b-clause-time : goal.returns-in_err-b-clause-time
returns-in_err-b-clause-time g c =
    then_rests _ _ _ _ _ _ (then_rests _ _ _ _ _ _ (then_rests _ _ _ _ _ _ c.synced.ensures.time c.synced-2.ensures.time) c.look.ensures.time) c.look-2.ensures.time

pub returns-clause-time : goal.returns-clause-time
returns-clause-time g c =
    then_rests _ _ _ _ _ _ (then_rests _ _ _ _ _ _ (then_rests _ _ _ _ _ _ c.synced.ensures.time c.synced-2.ensures.time) c.look.ensures.time) c.look-2.ensures.time

pub returns-clause-fits : goal.returns-clause-fits
returns-clause-fits g c =
    load_fits _ _ _ _ _ _ _ _ _ _ _ _ c.args.slot.now _ _ _ _ _ (c.items.ensures ∙ c.in_ok-name.ensures) (c.items-2.ensures ∙ c.in_ok-name.ensures)
    c.in_ok-synced.ensures.settled c.synced-2.ensures.told c.synced-2.ensures.time c.in_ok-synced-2.ensures.settled
    c.look.ensures.told c.look.ensures.time c.in_ok-a.ensures.seen c.look-2.ensures.told c.look-2.ensures.time c.in_ok-b.ensures.seen c.join_looks.ensures
