use Rattle.cell_check.proofs.numbers.put_passing.Given as goal

abbrev pub ghosts-put_rows : goal.ghosts-put_rows
ghosts-put_rows a = record { name = a.blank.name; parts = a.blank.parts }
