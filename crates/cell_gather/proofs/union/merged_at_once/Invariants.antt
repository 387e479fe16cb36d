use Rattle.std.proofs.Common.{◌≡◌, map, take}
use Rattle.aggregation.specs.Groups.{merged_all}
use Rattle.cell_gather.specs.Merges.{merged_cells, merged_so_far, no_cells}
use Rattle.cell_gather.proofs.union.merged_at_once.Given as goal

abbrev pub invariant-loop-row : goal.invariant-loop-row
invariant-loop-row l = map merged_so_far l.merges.items ≡ merged_all (no_cells l.forms) merged_cells (map (λ row. row.1) (take l.row-index l.rows))
