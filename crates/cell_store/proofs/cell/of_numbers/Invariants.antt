use Rattle.std.proofs.Common.{◌≡◌, take}
use Rattle.cell_store.specs.Cells.{numbers_of_items}
use Rattle.cell_store.proofs.cell.of_numbers.Given as goal

abbrev pub invariant-loop-item : goal.invariant-loop-item
invariant-loop-item g l = l.measure ≡ g.M.Measure.of_items (numbers_of_items (take l.item-index l.items))
