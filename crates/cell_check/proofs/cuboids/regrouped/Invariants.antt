use Rattle.cell_check.proofs.cuboids.regrouped.Given as goal

abbrev pub ghosts-regrouped_by : goal.ghosts-regrouped_by
ghosts-regrouped_by a = record { name = a.blank.name; parts = a.blank.parts }
