use Rattle.std.proofs.Common.{◌≡◌, drop}
use Rattle.cube_val.specs.Order.{row_cmp}
use Rattle.table_reader.specs.Keys.{key_of}
use Rattle.table_reader.proofs.key.compare.Given as goal

abbrev pub invariant-loop-i : goal.invariant-loop-i
invariant-loop-i l =
    row_cmp (drop l.i (key_of l.places l.row)) (drop l.i (key_of l.others l.other)) ≡ row_cmp (key_of l.places l.row) (key_of l.others l.other)
