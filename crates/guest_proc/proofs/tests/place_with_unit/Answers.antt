use Rattle.guest_proc.proofs.tests.place_with_unit.Goals as goal

pub attach_empty-requires-clause-there : goal.attach_empty-requires-clause-there
attach_empty-requires-clause-there g c = c.in_ok-place.ensures.there c.if-not-branch.false

pub attach_empty-requires-clause-clear : goal.attach_empty-requires-clause-clear
attach_empty-requires-clause-clear g c = c.in_ok-place.ensures.clear c.if-not-branch.false

pub attach_empty-requires-clause-top : goal.attach_empty-requires-clause-top
attach_empty-requires-clause-top g c = c.in_ok-place.ensures.top c.if-not-branch.false
