use Rattle.cell_merge.proofs.merging.merge_tables.Given as goal

abbrev pub ghosts-renumbered_parts : goal.ghosts-renumbered_parts
ghosts-renumbered_parts a = record { name = a.blank.name; parts = a.blank.parts }
