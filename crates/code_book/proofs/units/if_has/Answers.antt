use Rattle.std.proofs.Common.{Some, None, ◌∙◌, sym, ap}
use Rattle.std.specs.Prelude.{is_some, if◌then◌else◌}
use Rattle.code_book.proofs.UnitBlocks.{has-placed}
use Rattle.code_book.proofs.units.if_has.Goals as goal

pub returns-then-is_some : goal.returns-then-is_some
returns-then-is_some c = ap (λ b. if b then Some c.args.addr else None) (c.if-is_some.ensures ∙ ap is_some c.find.ensures.place ∙ has-placed c.args.unit.now.frags c.args.addr)

pub returns-else-is_some : goal.returns-else-is_some
returns-else-is_some c = ap (λ b. if b then Some c.args.addr else None) (c.if-is_some.ensures ∙ ap is_some c.find.ensures.place ∙ has-placed c.args.unit.now.frags c.args.addr)
