use Rattle.std.proofs.Common.{◌≡◌, take, map}
use Rattle.agg_group.specs.Rules.{lists_of}
use Rattle.cube_desc.specs.Groups.{dimensions_of}
use Rattle.cube_desc.proofs.groups.lists_of.Given as goal

abbrev pub invariant-loop-texts : goal.invariant-loop-texts
invariant-loop-texts l = lists_of l.numbers.items ≡ map (dimensions_of l.rowkey) (take l.texts-index l.lists)
