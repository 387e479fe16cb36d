use Rattle.std.proofs.Common.{◌≡◌}
use Rattle.std.specs.List.{flat_map, range_with_len}
use Rattle.cuboid_lines.specs.Lines.{spaced_if_in}
use Rattle.cuboid_lines.proofs.names.add_columns.Given as goal

abbrev pub invariant-loop-d : goal.invariant-loop-d
invariant-loop-d l = l.names.items ≡ flat_map (spaced_if_in l.fn.cube l.mask) (range_with_len 0 l.d)
