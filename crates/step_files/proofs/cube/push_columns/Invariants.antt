use Rattle.std.proofs.Common.{◌≡◌, ◌++◌, take}
use Rattle.std.specs.Prelude.{map}
use Rattle.step_files.specs.Cubes.{column_at}
use Rattle.step_files.proofs.cube.push_columns.Given as goal

abbrev pub invariant-loop-w : goal.invariant-loop-w
invariant-loop-w l = l.flat.items ≡ l.fn.flat.items ++ map (column_at l.tables) (take l.w-index l.wide)
