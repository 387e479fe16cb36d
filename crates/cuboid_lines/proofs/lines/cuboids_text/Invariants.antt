use Rattle.std.proofs.Common.{◌≡◌, ◌++◌}
use Rattle.std.specs.Prelude.{codes}
use Rattle.std.specs.List.{flat_map, range_with_len}
use Rattle.cuboid_lines.specs.Lines.{cuboid_line}
use Rattle.cuboid_lines.proofs.lines.cuboids_text.Given as goal

abbrev pub invariant-loop-place : goal.invariant-loop-place
invariant-loop-place l = l.text.items ≡ codes "mask,dimensions,parent,columns\n" ++ flat_map (cuboid_line l.cube) (range_with_len 0 l.place)
