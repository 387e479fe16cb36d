use Rattle.std.proofs.Common.{take, ◌≡◌}
use Rattle.std.specs.BTreeMap.{IsOrdered, get}
use Rattle.aggregation.specs.Groups.{values_at}
use Rattle.aggregation.proofs.CellFacts.{cell_of}
use Rattle.cube_val.specs.Order.{row_cmp}
use Rattle.measure_laws.specs.Measures.{summed}
use Rattle.fixed_cube.specs.Rows.{item_of_row, key_of_row}
use Rattle.fixed_cube.proofs.steps.base_map.Given as goal

abbrev pub invariant-loop-row : goal.invariant-loop-row
invariant-loop-row l =
    IsOrdered row_cmp l.cells
    × ((q : _) → get row_cmp l.cells q ≡ cell_of summed (values_at row_cmp key_of_row item_of_row (take l.row-index l.rows) q))
