use Rattle.map_laws.proofs.Whole.{closing-begins, one-more-let-go, all-are-let-go}
use Rattle.map_laws.proofs.laws.the_end_is_closed.Goals as goal

pub returns-clause-begins : goal.returns-clause-begins
returns-clause-begins c = closing-begins

pub returns-clause-more : goal.returns-clause-more
returns-clause-more c = one-more-let-go

pub returns-clause-closed : goal.returns-clause-closed
returns-clause-closed c = all-are-let-go
