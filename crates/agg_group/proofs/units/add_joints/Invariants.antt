use Rattle.std.proofs.Common.{◌≡◌, ◌++◌, map, take}
use Rattle.agg_group.specs.Rules.{lists_of}
use Rattle.agg_group.specs.Units.{whole, mask_units}
use Rattle.agg_group.specs.UnitLists.{steps_of}
use Rattle.agg_group.proofs.units.add_joints.Given as goal

abbrev pub invariant-loop-joint : goal.invariant-loop-joint
invariant-loop-joint l =
    steps_of l.units.items ≡ steps_of l.initial.units.items ++ mask_units (map whole (lists_of (take l.joint-index l.joints)))
