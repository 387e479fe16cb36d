use Rattle.std.proofs.Common.{◌≡◌, map, take}
use Rattle.cell_store.specs.Cells.{no_cell}
use Rattle.cell_gather.proofs.merge.no_cells.Given as goal

abbrev pub invariant-loop-form : goal.invariant-loop-form
invariant-loop-form l = l.cells.items ≡ map no_cell (take l.form-index l.forms)
