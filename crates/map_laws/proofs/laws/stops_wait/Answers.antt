use Rattle.map_laws.proofs.Answering.{map-waits, unmap-waits, replace-waits}
use Rattle.map_laws.proofs.laws.stops_wait.Goals as goal

pub returns-clause-map : goal.returns-clause-map
returns-clause-map c = map-waits

pub returns-clause-unmap : goal.returns-clause-unmap
returns-clause-unmap c = unmap-waits

pub returns-clause-replace : goal.returns-clause-replace
returns-clause-replace c = replace-waits
