use Rattle.std.proofs.Common.{◌≡◌, ◌∷◌, [], ◌++◌, map, take, filter}
use Rattle.agg_group.specs.Units.{whole, is_free, mask_units}
use Rattle.agg_group.specs.UnitLists.{steps_of}
use Rattle.agg_group.proofs.group.Group.add_free.Given as goal

abbrev pub invariant-loop-d : goal.invariant-loop-d
invariant-loop-d l =
    steps_of l.units.items ≡ steps_of l.initial.units.items ++ mask_units (map (λ d. whole (d ∷ [])) (filter (is_free l.self) (take l.d-index l.self.includes)))
