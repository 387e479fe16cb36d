-- A small cube, on which the definitions are computed.
use Rattle.std.specs.Prelude.{List, [], ◌∷◌}
use Rattle.agg_group.specs.declared.mask.Mask.{Mask}

-- {0}, {0, 1}, {0, 1, 2}
abbrev pub three : List Mask
three = record { 0 = 1 } ∷ record { 0 = 3 } ∷ record { 0 = 7 } ∷ []

-- every set of three dimensions but the empty one
abbrev pub seven : List Mask
seven =
    record { 0 = 1 } ∷ record { 0 = 2 } ∷ record { 0 = 3 } ∷ record { 0 = 4 } ∷ record { 0 = 5 } ∷ record { 0 = 6 } ∷ record { 0 = 7 } ∷ []
