use Rattle.std.proofs.Common.{inr}
use Rattle.unit_format.specs.declared.error.TextErr.TheVariants as errors
use Rattle.unit_format.proofs.Named.{unnamed}
use Rattle.unit_format.proofs.header.name_of.Goals as goal

pub returns-in-Err-Bad : goal.returns-in-Err-Bad
returns-in-Err-Bad c = inr (unnamed c.names_are_read.ensures c.args.bytes.now errors.Name c.in-Err-Bad.field-0 c.in-Err-Bad.field-0-is c.in-Err-Bad.ensures)
