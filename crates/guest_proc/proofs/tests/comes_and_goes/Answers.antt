use Rattle.guest_proc.proofs.tests.comes_and_goes.Goals as goal

pub take_away-requires-clause-top : goal.take_away-requires-clause-top
take_away-requires-clause-top c = c.in_ok-place.ensures.top c.if-not-branch.false

pub take_away-requires-clause-stand : goal.take_away-requires-clause-stand
take_away-requires-clause-stand c = c.in_ok-place.ensures.stand c.if-not-branch.false
