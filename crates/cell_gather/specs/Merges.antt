-- Cells merged: the cells of two lists of rows joined, from the cells of each.
use Rattle.std.specs.Prelude.{List, [], ◌∷◌, map}
use Rattle.measure_laws.specs.declared.measure.MeasureForm.{MeasureForm}
use Rattle.cell_store.specs.Cells.{merged_cell, no_cell}
use Rattle.cell_store.specs.declared.cell.Cell.{Cell}
use Rattle.cell_store.specs.declared.cell.Cell.TheVariants.{Distinct}
use Rattle.cell_gather.specs.declared.union.Merging.{Merging}
use Rattle.cell_gather.specs.declared.union.Merging.TheVariants.{Merged, Union}

-- the cells of no row
abbrev pub no_cells : List MeasureForm → List Cell
no_cells forms = map no_cell forms

-- the cells of two rows, merged one by one
abbrev pub merged_cells : List Cell → List Cell → List Cell
merged_cells [] others = []
merged_cells (c ∷ cells) [] = []
merged_cells (c ∷ cells) (o ∷ others) = merged_cell c o ∷ merged_cells cells others

-- the cell that cells were merged into so far
abbrev pub merged_so_far : Merging → Cell
merged_so_far (Merged cell) = cell
merged_so_far (Union ids) = Distinct ids
