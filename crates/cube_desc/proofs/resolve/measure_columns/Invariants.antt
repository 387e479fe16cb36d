use Rattle.std.proofs.Common.{◌≡◌, ◌++◌, drop}
use Rattle.std.specs.List.{flat_map}
use Rattle.std.specs.Prelude.{option_to_list}
use Rattle.cube_desc.specs.Resolve.{firsts, measured_column, measure_columns}
use Rattle.cube_desc.proofs.resolve.measure_columns.Given as goal

abbrev pub invariant-loop-measure : goal.invariant-loop-measure
invariant-loop-measure l = l.columns.items ++ firsts l.columns.items (flat_map (λ m. option_to_list (measured_column l.raw m)) (drop l.measure-index l.measure-items)) ≡ measure_columns l.raw
