use Rattle.cell_check.proofs.answer_word.Given as goal

abbrev pub ghosts-answer_row : goal.ghosts-answer_row
ghosts-answer_row g a = record { name = a.blank.name; parts = a.blank.parts }
