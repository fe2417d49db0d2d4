use Rattle.guest_script.proofs.Rows.{mapped-library}
use Rattle.guest_script.proofs.laws.mapped_library.Goals as goal

pub returns : goal.returns
returns c = mapped-library
