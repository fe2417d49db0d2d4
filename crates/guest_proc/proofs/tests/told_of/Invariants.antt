use Rattle.guest_proc.proofs.tests.told_of.Given as goal

abbrev pub ghosts-counts_of : goal.ghosts-counts_of
ghosts-counts_of g a = record { name = a.blank.name; parts = a.blank.parts }
