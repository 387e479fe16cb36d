use Rattle.std.proofs.Common.{◌≡◌}
use Rattle.std.specs.List.{filter, range_with_len}
use Rattle.agg_group.specs.Mask.{has}
use Rattle.cell_merge.proofs.renumbering.dims_of.Given as goal

abbrev pub invariant-loop-d : goal.invariant-loop-d
invariant-loop-d l = l.dims.items ≡ filter (has l.mask) (range_with_len 0 l.d)
