use Rattle.cell_check.proofs.selects.answer_select.Given as goal

abbrev pub ghosts-put_selected : goal.ghosts-put_selected
ghosts-put_selected g a = record { name = a.blank.name; parts = a.blank.parts }
