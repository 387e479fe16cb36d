use Rattle.std.proofs.Common.{◌≡◌, take, map}
use Rattle.cube_desc.specs.Resolve.{column_of}
use Rattle.cube_desc.proofs.resolve.column_descs.Given as goal

abbrev pub invariant-loop-column : goal.invariant-loop-column
invariant-loop-column l = l.cols ≡ map column_of (take l.column-index l.columns)
