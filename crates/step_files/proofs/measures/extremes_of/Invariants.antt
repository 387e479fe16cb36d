use Rattle.std.proofs.Common.{◌≡◌}
use Rattle.std.specs.List.{flat_map, range_with_len}
use Rattle.step_files.specs.Cubes.{extremes_with}
use Rattle.step_files.proofs.measures.extremes_of.Given as goal

abbrev pub invariant-loop-i : goal.invariant-loop-i
invariant-loop-i l = l.found.items ≡ flat_map (extremes_with l.measures) (range_with_len 0 l.i)
