-- Small lists of masks, on which the definitions are computed.
use Rattle.std.specs.Prelude.{List, [], ◌∷◌}
use Rattle.agg_group.specs.declared.mask.Mask.{Mask}

-- {0}, {1}, {0, 1}, {0, 1, 2}
abbrev pub four : List Mask
four = record { 0 = 1 } ∷ record { 0 = 2 } ∷ record { 0 = 3 } ∷ record { 0 = 7 } ∷ []

-- {0}, {0, 1}, {0, 2}, {0, 1, 2}: two supersets with as few dimensions
abbrev pub tied : List Mask
tied = record { 0 = 1 } ∷ record { 0 = 3 } ∷ record { 0 = 5 } ∷ record { 0 = 7 } ∷ []

-- the cuboids of six dimensions with the hierarchy 0, 1, 2, the joint 3, 4 and the mandatory dimension 5
abbrev pub ruled : List Mask
ruled =
    record { 0 = 32 } ∷ record { 0 = 33 } ∷ record { 0 = 35 } ∷ record { 0 = 39 } ∷ record { 0 = 56 } ∷ record { 0 = 57 } ∷ record { 0 = 59 }
    ∷ record { 0 = 63 } ∷ []
