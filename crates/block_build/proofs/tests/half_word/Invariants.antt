use Rattle.block_build.proofs.tests.half_word.Given as goal

abbrev pub ghosts-made_in : goal.ghosts-made_in
ghosts-made_in a made = record { name = made.blank.name; parts = made.blank.parts }
