use Rattle.std.proofs.Common.{◌≡◌, take}
use Rattle.std.specs.List.{flat_map}
use Rattle.cube_desc.specs.Resolve.{dimension_derived}
use Rattle.cube_desc.proofs.resolve.derived_columns.Given as goal

abbrev pub invariant-loop-dimension : goal.invariant-loop-dimension
invariant-loop-dimension l = l.derived.items ≡ flat_map (dimension_derived l.raw) (take l.dimension-index l.dimension-items)
