use Rattle.std.proofs.Common.{◌≡◌}
use Rattle.std.specs.Prelude.{filter}
use Rattle.agg_group.specs.Mask.{has}
use Rattle.agg_group.specs.Sets.{dimensions}
use Rattle.cube_fields.proofs.tables.dims_of.Given as goal

abbrev pub invariant-loop-d : goal.invariant-loop-d
invariant-loop-d l = l.dims.items ≡ filter (has l.mask) (dimensions l.d)
