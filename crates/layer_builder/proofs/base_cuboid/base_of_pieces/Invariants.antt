use Rattle.layer_builder.proofs.base_cuboid.base_of_pieces.Given as goal

abbrev pub ghosts-joined : goal.ghosts-joined
ghosts-joined a = record { name = a.blank.name; parts = a.blank.parts }
