use Rattle.std.proofs.Common.{◌≡◌, ◌≤◌, [], ◌∷◌, length, take, All}
use Rattle.std.specs.List.{flat_map}
use Rattle.agg_group.specs.Limits.{most_cuboids}
use Rattle.agg_group.specs.Faults.{IsSound}
use Rattle.agg_group.specs.Units.{group_masks}
use Rattle.agg_group.specs.Built.{base_mask, with_masks}
use Rattle.agg_group.proofs.built.valid_masks.Given as goal

abbrev pub invariant-loop-group : goal.invariant-loop-group
invariant-loop-group l =
    (l.masks.keys ≡ with_masks [] (base_mask l.n ∷ flat_map group_masks (take l.group-index l.groups)))
    × (length l.masks.keys ≤ most_cuboids) × All IsSound (take l.group-index l.groups)
