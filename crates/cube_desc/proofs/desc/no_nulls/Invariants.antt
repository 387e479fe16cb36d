use Rattle.std.proofs.Common.{◌≡◌, map}
use Rattle.std.specs.List.{range_with_len}
use Rattle.cube_desc.specs.Forms.{no_null_at}
use Rattle.cube_desc.proofs.desc.no_nulls.Given as goal

abbrev pub invariant-loop-column : goal.invariant-loop-column
invariant-loop-column l = l.no_null.items ≡ map (no_null_at l.parts l.table) (range_with_len 0 l.column)
