use Rattle.std.proofs.Common.{◌≡◌, map}
use Rattle.std.specs.List.{filter, range_with_len}
use Rattle.agg_group.specs.Mask.{has}
use Rattle.cell_gather.proofs.keys.kept_dims.Given as goal

abbrev pub invariant-loop-d : goal.invariant-loop-d
invariant-loop-d l = l.keeps.items ≡ map (has l.part) (filter (has l.whole) (range_with_len 0 l.d))
