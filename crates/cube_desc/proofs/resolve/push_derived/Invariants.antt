use Rattle.std.proofs.Common.{◌≡◌, ◌++◌, take, map}
use Rattle.cube_desc.specs.Resolve.{derived_column}
use Rattle.cube_desc.proofs.resolve.push_derived.Given as goal

abbrev pub invariant-loop-name : goal.invariant-loop-name
invariant-loop-name l = l.derived.items ≡ l.initial.derived.items ++ map (derived_column l.raw l.table) (take l.name-index l.names)
