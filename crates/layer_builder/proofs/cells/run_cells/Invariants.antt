use Rattle.std.proofs.Common.{◌≡◌, ◌≤◌, ◌+◌, ◌++◌, drop, length, map}
use Rattle.cell_gather.specs.Gathers.{cells_of}
use Rattle.layer_builder.specs.Base.{count_of_distincts, measures_from}
use Rattle.layer_builder.proofs.cells.run_cells.Given as goal

abbrev pub invariant-loop-agg : goal.invariant-loop-agg
invariant-loop-agg l = record {
  cells : l.cells.items ++ cells_of (measures_from l.dicts l.next (drop l.agg-index l.aggs)) (map (λ row. row.1) l.rows) ≡ cells_of (measures_from l.dicts l.fn.place l.aggs) (map (λ row. row.1) l.rows);
  places : l.next + count_of_distincts (drop l.agg-index l.aggs) ≤ length l.dicts;
}
