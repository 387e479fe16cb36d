use Rattle.std.proofs.Common.{◌≡◌, map, take}
use Rattle.agg_group.specs.Units.{members, mask_of}
use Rattle.agg_group.proofs.units.members.Given as goal

abbrev pub invariant-loop-d : goal.invariant-loop-d
invariant-loop-d l = l.steps.items ≡ map mask_of (members (take l.d-index l.dims))
