use Rattle.shelf_model.proofs.Writes.{store_after}
use Rattle.shelf_model.proofs.shelf.store.Goals as goal

pub returns-clause-stores : goal.returns-clause-stores
returns-clause-stores g c =
    store_after _ _ _ _ _ _ _ _ _ _ _ _ _ c.sync.result c.in_ok-write_at.ensures.told c.write_at.ensures.silent c.write_at.ensures.others c.write_at.ensures.time c.sync.ensures.settled c.sync.ensures.told c.sync.ensures.time
