use Rattle.std.proofs.Common.{◌≡◌, map, take}
use Rattle.aggregation.specs.Groups.{merged_all}
use Rattle.cell_gather.specs.Merges.{merged_cells, no_cells}
use Rattle.cell_gather.proofs.merge.merged_in_turn.Given as goal

abbrev pub invariant-loop-row : goal.invariant-loop-row
invariant-loop-row l = l.cells.items ≡ merged_all (no_cells l.forms) merged_cells (map (λ row. row.1) (take l.row-index l.rows))
