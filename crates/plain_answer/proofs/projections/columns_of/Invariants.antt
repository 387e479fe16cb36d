use Rattle.std.proofs.Common.{◌≡◌}
use Rattle.std.specs.List.{filter, range_with_len}
use Rattle.agg_group.specs.Mask.{has}
use Rattle.plain_answer.proofs.projections.columns_of.Given as goal

abbrev pub invariant-loop-d : goal.invariant-loop-d
invariant-loop-d l = l.columns.items ≡ filter (has l.dims) (range_with_len 0 l.d)
