use Rattle.std.proofs.Common.{take}
use Rattle.csv.specs.Records.{fields_of}
use Rattle.table_reader.specs.Rows.{WritesRow}
use Rattle.table_reader.proofs.row.read_cells.Given as goal

abbrev pub invariant-loop-i : goal.invariant-loop-i
invariant-loop-i l = WritesRow (take l.i l.columns) (fields_of l.found) l.vals.items
