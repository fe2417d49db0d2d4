use Rattle.guest_script.proofs.Rows.{first-publication}
use Rattle.guest_script.proofs.laws.first_publication.Goals as goal

pub returns : goal.returns
returns c = first-publication
