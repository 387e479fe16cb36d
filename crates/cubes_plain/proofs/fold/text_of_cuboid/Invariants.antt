use Rattle.std.proofs.Common.{◌≡◌, ◌++◌, take}
use Rattle.std.specs.List.{flat_map}
use Rattle.cubes_plain.specs.Cuboids.{row_line}
use Rattle.cubes_plain.specs.Folds.{header_line}
use Rattle.cubes_plain.proofs.fold.text_of_cuboid.Given as goal

abbrev pub invariant-loop-i : goal.invariant-loop-i
invariant-loop-i g l = l.text.items ≡ header_line ++ flat_map (row_line l.dict) (take l.i l.cuboid.rows)
