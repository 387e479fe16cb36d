use Rattle.layer_builder.proofs.in_pieces.cuboid.Given as goal

abbrev pub ghosts-joined : goal.ghosts-joined
ghosts-joined g a = record { name = a.blank.name; parts = a.blank.parts }
