-- Cell tables by columns: for each dimension the numbers of all rows, and the cells of all rows one after another.
use Rattle.std.specs.Prelude.{◌≡◌, ◌<◌, ◌*◌, ◌++◌, ◌∷◌, [], ℕ, List, Vec, All, drop, length, map, slice_index, take, vec_len}
use Rattle.std.specs.declared.alloc.Global.{Global}
use Rattle.std.specs.List.{range_with_len}
use Rattle.std.specs.Vec.{vec_capacity}
use Rattle.agg_group.specs.declared.mask.Mask.{Mask}
use Rattle.agg_group.specs.Mask.{count_of}
use Rattle.measure_laws.specs.declared.measure.MeasureForm.{MeasureForm}
use Rattle.cell_store.specs.declared.cell.Cell.{Cell}
use Rattle.cell_store.specs.Cells.{IsCellTable}

-- the numbers of each column
abbrev pub lists_of : List (Vec ℕ Global) → List (List ℕ)
lists_of columns = map (λ column. column.items) columns

-- there is room for one more number
abbrev pub HasRoom : Vec ℕ Global → Type 0
HasRoom column = vec_len column < vec_capacity column

-- the key of the row at a place: its number in each column
abbrev pub key_at : List (List ℕ) → ℕ → List ℕ
key_at columns place = map (λ column. slice_index column place) columns

-- the cells of the row at a place, where each row has so many
abbrev pub cells_at : ℕ → List Cell → ℕ → List Cell
cells_at width cells place = take width (drop (place * width) cells)

-- the rows that stand in columns
abbrev pub rows_of : ℕ → List (List ℕ) → ℕ → List Cell → List (List ℕ × List Cell)
rows_of count columns width cells = map (λ place. (key_at columns place, cells_at width cells place)) (range_with_len 0 count)

-- the columns with one more key
abbrev pub with_key : List (List ℕ) → List ℕ → List (List ℕ)
with_key [] key = []
with_key (column ∷ columns) [] = []
with_key (column ∷ columns) (id ∷ key) = (column ++ id ∷ []) ∷ with_key columns key

-- a table of so many rows has a column for each dimension of its mask, each with a number for each row, and a cell for each row and form
pub record AreColumns (mask : Mask) (forms : List MeasureForm) (count : ℕ) (columns : List (List ℕ)) (cells : List Cell) : Type 0 where
  pub dims : length columns ≡ count_of mask
  pub each : All (λ column. length column ≡ count) columns
  pub whole : length cells ≡ count * length forms
  pub table : IsCellTable mask forms (rows_of count columns (length forms) cells)
