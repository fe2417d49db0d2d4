use Rattle.in_lists.proofs.tests.cuts.Goals as goal

pub cut-requires : goal.cut-requires
cut-requires g c = (c.in-Some.found, (c.head_of.ensures c.in-Some.found).0 c.in-Some.is)
