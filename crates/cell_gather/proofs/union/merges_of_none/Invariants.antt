use Rattle.std.proofs.Common.{◌≡◌, map, take}
use Rattle.cell_gather.specs.Merges.{merged_so_far}
use Rattle.cell_store.specs.Cells.{no_cell}
use Rattle.cell_gather.proofs.union.merges_of_none.Given as goal

abbrev pub invariant-loop-form : goal.invariant-loop-form
invariant-loop-form l = map merged_so_far l.merges.items ≡ map no_cell (take l.form-index l.forms)
