use Rattle.std.proofs.Common.{◌≡◌, ◌++◌, take, map}
use Rattle.cube_desc.specs.Resolve.{wide_derived, derived_column}
use Rattle.cube_desc.proofs.resolve.push_wide_derived.Given as goal

abbrev pub invariant-loop-name : goal.invariant-loop-name
invariant-loop-name l = l.columns.items ≡ l.initial.columns.items ++ map wide_derived (map (derived_column l.raw l.table) (take l.name-index l.names))
