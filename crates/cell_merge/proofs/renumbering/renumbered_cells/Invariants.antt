use Rattle.std.proofs.Common.{◌≡◌, ◌≤◌, ◌+◌, ◌++◌, drop}
use Rattle.cell_merge.specs.Renumbered.{HaveNumbers, renumbered_cells}
use Rattle.cell_merge.proofs.renumbering.renumbered_cells.Given as goal

abbrev pub invariant-loop-cell : goal.invariant-loop-cell
invariant-loop-cell l = record {
  cells : l.new.items ++ renumbered_cells l.remaps l.next (drop l.cell-index l.cells) ≡ renumbered_cells l.remaps l.fn.place l.cells;
  there : HaveNumbers l.remaps l.next (drop l.cell-index l.cells);
  few : l.next ≤ l.fn.place + l.cell-index;
}
