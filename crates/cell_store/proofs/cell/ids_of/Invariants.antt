use Rattle.std.proofs.Common.{◌≡◌, take}
use Rattle.cell_store.specs.Cells.{ids_of_items}
use Rattle.cell_store.proofs.cell.ids_of.Given as goal

abbrev pub invariant-loop-item : goal.invariant-loop-item
invariant-loop-item l = l.ids.items ≡ ids_of_items (take l.item-index l.items)
