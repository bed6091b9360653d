use Rattle.call_tests.proofs.machines.ending.Given as goal

abbrev pub ghosts-ending_counted : goal.ghosts-ending_counted
ghosts-ending_counted g a = record { name = a.blank.name; parts = a.blank.parts }
