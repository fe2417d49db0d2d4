use Rattle.shelf_model.specs.declared.memory.Action.TheVariants.{Put}
use Rattle.shelf_model.proofs.Records.{told_of_put, settled_by_put, told_elsewhere}
use Rattle.shelf_model.proofs.memory.MemShelf.put.Goals as goal

pub returns-clause-told : goal.returns-clause-told
returns-clause-told c = told_of_put c.note_put.result c.args.self.now.calls.items _ _ _ _ c.note_put.ensures.ok

pub returns-clause-synced : goal.returns-clause-synced
returns-clause-synced c = settled_by_put c.note_put.result c.args.self.now.calls.items _ _ _ _ c.note_put.ensures.ok

pub returns-clause-others : goal.returns-clause-others
returns-clause-others c = λ n b o. told_elsewhere c.note_put.result _ _ _ _ (Put c.args.bytes.now) c.note_put.ensures.ok c.note_put.ensures.err n b o
