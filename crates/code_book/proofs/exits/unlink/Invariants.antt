use Rattle.code_book.proofs.exits.unlink.Given as goal

abbrev pub ghosts-unlink_counting : goal.ghosts-unlink_counting
ghosts-unlink_counting a = record { name = a.blank.name; parts = a.blank.parts }
