use Rattle.set_check.proofs.sets.answer_named.Given as goal

abbrev pub ghosts-put_row : goal.ghosts-put_row
ghosts-put_row g a = record { name = a.blank.name; parts = a.blank.parts }
