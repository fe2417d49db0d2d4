use Rattle.exit_links.proofs.tests.exits_are_linked_and_unlinked.Given as goal

abbrev pub ghosts-unlinks : goal.ghosts-unlinks
ghosts-unlinks a a' = record { name = a'.blank.name; parts = a'.blank.parts }
