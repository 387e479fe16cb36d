-- The steps of the units that the code holds.
use Rattle.std.specs.Prelude.{List, map, Vec}
use Rattle.std.specs.declared.alloc.Global.{Global}
use Rattle.agg_group.specs.declared.mask.Mask.{Mask}

abbrev pub steps_of : List (Vec Mask Global) → List (List Mask)
steps_of units = map (λ u. u.items) units
