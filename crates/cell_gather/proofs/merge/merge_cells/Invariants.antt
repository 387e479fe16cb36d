use Rattle.std.proofs.Common.{◌≡◌, ◌++◌, drop, take}
use Rattle.cell_gather.specs.Merges.{merged_cells}
use Rattle.cell_gather.proofs.merge.merge_cells.Given as goal

abbrev pub invariant-loop-k : goal.invariant-loop-k
invariant-loop-k l = l.cells ≡ merged_cells (take l.k l.fn.cells) (take l.k l.others) ++ drop l.k l.fn.cells
