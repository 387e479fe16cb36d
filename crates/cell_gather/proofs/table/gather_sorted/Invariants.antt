use Rattle.std.proofs.Common.{◌≡◌, ◌+◌, ◌-◌, ◌<◌, ◌≤◌, ◌++◌, ℕ, length, drop}
use Rattle.std.specs.Prelude.{sum_by}
use Rattle.measure_laws.specs.Measures.{most_items}
use Rattle.cell_store.specs.Cells.{items_at}
use Rattle.cell_gather.specs.Gathers.{gathered}
use Rattle.cell_gather.proofs.table.gather_sorted.Given as goal

abbrev pub invariant-loop-start : goal.invariant-loop-start
invariant-loop-start l = record {
  within : l.start ≤ length l.rows;
  few : (k : ℕ) → k < length l.forms → sum_by (λ row. items_at k row.1) l.table.rows + sum_by (λ row. items_at k row.1) (drop l.start l.rows) ≤ most_items;
  mask : l.table.mask ≡ l.fn.mask;
  forms : l.table.forms ≡ l.forms;
  rows : l.table.rows ++ gathered l.forms (λ key. key) (drop l.start l.rows) ≡ gathered l.forms (λ key. key) l.rows;
}

abbrev pub decreases-loop-start : goal.decreases-loop-start
decreases-loop-start l = length l.rows - l.start
