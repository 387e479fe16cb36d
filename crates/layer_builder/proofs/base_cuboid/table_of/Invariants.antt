use Rattle.std.proofs.Common.{◌≡◌, ◌-◌, ◌≤◌, ◌++◌, length, drop}
use Rattle.layer_builder.specs.Base.{base_mask, measures_from}
use Rattle.layer_builder.specs.Runs.{cells_by_key}
use Rattle.layer_builder.proofs.base_cuboid.table_of.Given as goal

abbrev pub invariant-loop-start : goal.invariant-loop-start
invariant-loop-start l = record {
  within : l.start ≤ length l.rows;
  mask : l.table.mask ≡ base_mask l.fn.width;
  forms : l.table.forms ≡ l.forms;
  rows : l.table.rows ++ cells_by_key (measures_from l.dicts l.fn.width l.aggs) (drop l.start l.rows) ≡ cells_by_key (measures_from l.dicts l.fn.width l.aggs) l.rows;
}

abbrev pub decreases-loop-start : goal.decreases-loop-start
decreases-loop-start l = length l.rows - l.start
