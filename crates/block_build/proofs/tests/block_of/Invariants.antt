use Rattle.block_build.proofs.tests.block_of.Given as goal

abbrev pub ghosts-block_in : goal.ghosts-block_in
ghosts-block_in a = record { name = a.blank.name; parts = a.blank.parts }
