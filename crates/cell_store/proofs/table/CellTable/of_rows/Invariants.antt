use Rattle.std.proofs.Common.{◌≡◌, ◌++◌}
use Rattle.cell_store.proofs.table.CellTable.of_rows.Given as goal

abbrev pub invariant-loop-row : goal.invariant-loop-row
invariant-loop-row l = record {
  mask : l.table.mask ≡ l.fn.mask;
  forms : l.table.forms ≡ l.forms;
  rows : l.table.rows ++ l.row-iterator.rest.items ≡ l.fn.rows.items;
}
