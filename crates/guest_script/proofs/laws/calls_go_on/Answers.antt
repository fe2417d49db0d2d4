use Rattle.guest_script.proofs.Going.{ages-go-on, legs-go-on, made-goes-on, told-goes-on}
use Rattle.guest_script.proofs.laws.calls_go_on.Goals as goal

pub returns-clause-made : goal.returns-clause-made
returns-clause-made c = made-goes-on

pub returns-clause-ages : goal.returns-clause-ages
returns-clause-ages c = ages-go-on

pub returns-clause-told : goal.returns-clause-told
returns-clause-told c = told-goes-on

pub returns-clause-legs : goal.returns-clause-legs
returns-clause-legs c = legs-go-on
