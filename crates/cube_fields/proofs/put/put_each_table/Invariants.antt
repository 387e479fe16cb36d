use Rattle.std.proofs.Common.{◌≡◌, ◌++◌, take}
use Rattle.std.specs.List.{flat_map}
use Rattle.cube_fields.specs.Cells.{table_text}
use Rattle.cube_fields.proofs.put.put_each_table.Given as goal

abbrev pub invariant-loop-table : goal.invariant-loop-table
invariant-loop-table g l = l.out.items ≡ l.fn.out.items ++ flat_map table_text (take l.table-index l.tables)
