-- Rows of cells, of rows of any type and gathered from others.
use Rattle.std.specs.Prelude.{ℕ, List, Option, map}
use Rattle.std.specs.List.{filter_map}
use Rattle.measure_laws.specs.declared.measure.MeasureForm.{MeasureForm}
use Rattle.aggregation.specs.Groups.{aggregate, gather}
use Rattle.cell_store.specs.Cells.{cell_of_items, key_cmp}
use Rattle.cell_store.specs.declared.cell.Cell.{Cell}
use Rattle.cell_store.specs.declared.cell.RowItem.{RowItem}
use Rattle.cell_gather.specs.Merges.{merged_cells, no_cells}

-- a measure of rows: what it takes of a row, if the row has anything for it
pub record RowMeasure (R : Type 0) : Type 0 where
  pub form : MeasureForm
  pub item : R → Option RowItem

-- the cell of rows; those that have nothing for the measure are passed over
abbrev pub cell_of : {R : Type 0} → RowMeasure R → List R → Cell
cell_of measure rows = cell_of_items measure.form (filter_map measure.item rows)

-- the cells of rows, one of each measure
abbrev pub cells_of : {R : Type 0} → List (RowMeasure R) → List R → List Cell
cells_of measures rows = map (λ measure. cell_of measure rows) measures

abbrev pub forms_of : {R : Type 0} → List (RowMeasure R) → List MeasureForm
forms_of measures = map (λ measure. measure.form) measures

-- the aggregate of rows by a key, with the cells of these measures
abbrev pub aggregated : {R : Type 0} → List (RowMeasure R) → (R → List ℕ) → List R → List (List ℕ × List Cell)
aggregated measures key rows = aggregate key_cmp key (λ row. row) (cells_of measures) rows

-- rows of cells gathered by a part of their keys: for each distinct part, in order, the merge of the cells that have it
abbrev pub gathered : List MeasureForm → (List ℕ → List ℕ) → List (List ℕ × List Cell) → List (List ℕ × List Cell)
gathered forms part rows = gather key_cmp part (no_cells forms) merged_cells rows
