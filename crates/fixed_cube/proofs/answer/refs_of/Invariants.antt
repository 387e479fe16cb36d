use Rattle.std.proofs.Common.{◌≡◌, ◌≤◌, ◌*◌, map, take}
use Rattle.std.specs.List.{flat_map, sum_by}
use Rattle.fixed_cube.specs.Cells.{count_of}
use Rattle.fixed_cube.specs.Columns.{row_limit}
use Rattle.fixed_cube.proofs.answer.refs_of.Given as goal

abbrev pub invariant-loop-cells : goal.invariant-loop-cells
invariant-loop-cells l = (l.refs ≡ flat_map (λ cells. cells) (map (λ cells. cells.now) (take l.cells-index l.lists))) × (sum_by count_of l.refs ≤ l.cells-index * row_limit)
