use Rattle.std.proofs.Common.{◌≡◌}
use Rattle.std.specs.Prelude.{map}
use Rattle.std.specs.List.{range_with_len}
use Rattle.step_files.specs.Cubes.{table_of}
use Rattle.step_files.proofs.cube.tables_of.Given as goal

abbrev pub invariant-loop-t : goal.invariant-loop-t
invariant-loop-t l = l.tables.items ≡ map (table_of l.desc.cube) (range_with_len 0 l.t)
