use Rattle.std.proofs.Common.{◌≡◌, ◌++◌, map, take}
use Rattle.agg_group.specs.Rules.{lists_of}
use Rattle.agg_group.specs.Units.{members, mask_units}
use Rattle.agg_group.specs.UnitLists.{steps_of}
use Rattle.agg_group.proofs.units.add_hierarchies.Given as goal

abbrev pub invariant-loop-hierarchy : goal.invariant-loop-hierarchy
invariant-loop-hierarchy l =
    steps_of l.units.items ≡ steps_of l.initial.units.items ++ mask_units (map members (lists_of (take l.hierarchy-index l.hierarchies)))
