use Rattle.std.proofs.Common.{◌≡◌, ◌++◌, drop}
use Rattle.step_files.specs.Cubes.{columns_in}
use Rattle.step_files.proofs.cube.columns_in.Given as goal

abbrev pub invariant-loop-i : goal.invariant-loop-i
invariant-loop-i l = l.columns.items ++ columns_in (drop l.i l.cols) (drop l.i l.no_null) ≡ columns_in l.cols l.no_null
