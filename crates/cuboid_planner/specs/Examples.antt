-- A cube of two dimensions, on which the definitions are computed.
use Rattle.std.specs.Prelude.{List, [], ◌∷◌}
use Rattle.cuboid_planner.specs.declared.cuboid.Size.{Size}
use Rattle.cuboid_planner.specs.declared.cuboid.Pick.{Pick}

-- each dimension alone with two rows, and the base with three
abbrev pub first_alone : Size
first_alone = record { mask = record { 0 = 1 }; rows = 2 }

abbrev pub second_alone : Size
second_alone = record { mask = record { 0 = 2 }; rows = 2 }

abbrev pub both : Size
both = record { mask = record { 0 = 3 }; rows = 3 }

abbrev pub three : List Size
three = first_alone ∷ second_alone ∷ both ∷ []

-- the choices, each of which saves one row: first the lesser mask
abbrev pub first_pick : Pick
first_pick = record { mask = record { 0 = 1 }; rows = 2; benefit = 1; total = 8 }

abbrev pub second_pick : Pick
second_pick = record { mask = record { 0 = 2 }; rows = 2; benefit = 1; total = 7 }
