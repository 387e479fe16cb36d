use Rattle.std.proofs.Common.{◌≡◌, ◌++◌, take, map}
use Rattle.std.specs.List.{flat_map}
use Rattle.cube_desc.specs.Resolve.{wide_derived, dimension_derived}
use Rattle.cube_desc.proofs.resolve.push_wide_dimensions.Given as goal

abbrev pub invariant-loop-dimension : goal.invariant-loop-dimension
invariant-loop-dimension l = l.columns.items ≡ l.initial.columns.items ++ flat_map (λ d. map wide_derived (dimension_derived l.raw d)) (take l.dimension-index l.dimension-items)
