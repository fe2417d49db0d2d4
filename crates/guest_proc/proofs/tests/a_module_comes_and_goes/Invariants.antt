use Rattle.guest_proc.proofs.tests.a_module_comes_and_goes.Given as goal

abbrev pub ghosts-told_of_another : goal.ghosts-told_of_another
ghosts-told_of_another g a = record { name = a.blank.name; parts = a.blank.parts }
