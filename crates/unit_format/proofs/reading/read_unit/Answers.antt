use Rattle.std.proofs.Common.{subst, arith}
use Rattle.unit_format.specs.Steps.{Gives}
use Rattle.unit_format.proofs.UnitLaws.{spelled_if_read, unit_again}
use Rattle.unit_format.proofs.reading.read_unit.Goals as goal

pub returns-clause-found : goal.returns-clause-found
returns-clause-found c = spelled_if_read c.args.bytes.now c.all.result (λ i. omega (arith, c.type_inv.bytes i)) c.all.ensures

pub returns-clause-only : goal.returns-clause-only
returns-clause-only c = λ v u spells. subst (λ r. Gives (λ u. u) c.all.result r) (unit_again v c.args.bytes.now u spells) c.all.ensures
