use Rattle.std.proofs.Common.{◌≡◌, take, drop, map}
use Rattle.std.specs.List.{flat_map}
use Rattle.desc_checks.specs.Firsts.{first}
use Rattle.cube_desc.specs.Groups.{rules_of, bad_group, bad_groups}
use Rattle.cube_desc.proofs.groups.groups_of.Given as goal

abbrev pub invariant-loop-group : goal.invariant-loop-group
invariant-loop-group l = (l.made.items ≡ map (rules_of l.keys) (take l.group-index l.group-items)) × (first (bad_groups l.raw) ≡ first (flat_map (bad_group l.keys) (drop l.group-index l.group-items)))
