use Rattle.std.proofs.Common.{◌≡◌, drop}
use Rattle.fixed_cube.specs.CellTests.{counts_fit}
use Rattle.fixed_cube.proofs.cells.are_counts.Given as goal

abbrev pub invariant-loop-cell : goal.invariant-loop-cell
invariant-loop-cell l = counts_fit l.left (drop l.cell-index l.cells) ≡ counts_fit l.most l.cells
