use Rattle.step_files.proofs.writing.put_product.Given as goal

abbrev pub ghosts-put_base_table : goal.ghosts-put_base_table
ghosts-put_base_table a = record { name = a.blank.name; parts = a.blank.parts }

abbrev pub ghosts-put_counted : goal.ghosts-put_counted
ghosts-put_counted a = record { name = a.blank.name; parts = a.blank.parts }
