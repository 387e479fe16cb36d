use Rattle.layer_builder.proofs.in_pieces.piece_cuboid.Given as goal

abbrev pub ghosts-regroup_uncounted : goal.ghosts-regroup_uncounted
ghosts-regroup_uncounted a = record { name = a.blank.name; parts = a.blank.parts }
