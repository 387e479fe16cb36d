use Rattle.std.proofs.Common.{◌≡◌, take}
use Rattle.std.specs.List.{flat_map}
use Rattle.desc_checks.specs.Repeats.{dimension_columns}
use Rattle.desc_checks.proofs.repeats.columns_of.Given as goal

abbrev pub invariant-loop-dimension : goal.invariant-loop-dimension
invariant-loop-dimension l = l.columns.items ≡ flat_map dimension_columns (take l.dimension-index l.dimensions)
