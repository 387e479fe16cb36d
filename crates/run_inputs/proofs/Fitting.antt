-- The rows of a table file may stand in a task.
use Rattle.std.proofs.Common.{ℕ, List, [], ◌∷◌, length}
use Rattle.std.specs.List.{AllByRecursion, AllZip}
use Rattle.byte_frame.specs.Spelling.{EachFits}
use Rattle.cube_val.specs.declared.val.Val.{Val}
use Rattle.cube_val.proofs.ValueFacts.{written_fits, written_is_value}
use Rattle.fixed_cube.specs.Columns.{fact_columns, row_limit}
use Rattle.fixed_cube.specs.Form.{fact_form}
use Rattle.step_fields.specs.Fits.{FitsColumn, FitsRow, FitsRows}
use Rattle.step_fields.specs.declared.column.Column.{Column}
use Rattle.table_reader.specs.Columns.{columns_of}
use Rattle.table_reader.specs.Rows.{IsRowOf, WritesCell, WritesRow, field_of}
use Rattle.table_reader.specs.Tables.{IsTableOf}
use Rattle.table_reader.specs.declared.header.Column.{Column as Read}

-- a column as it is read, in a task
abbrev as_column : Read → Column
as_column column = record { ty = column.ty; no_null = column.no_null }

abbrev as_columns : List Read → List Column
as_columns [] = []
as_columns (column ∷ columns) = as_column column ∷ as_columns columns

fitting_cell : (column : Read) (field : List ℕ) (v : Val) → WritesCell column field v → FitsColumn (as_column column) v
fitting_cell column field v w = record { of_type = written_fits column.ty field v w.0; is_value = written_is_value column.ty field v w.0; no_null = w.1 }

fitting_row : (columns : List Read) (fields : List (List ℕ)) (row : List Val) → WritesRow columns fields row → EachFits FitsColumn (as_columns columns) row
fitting_row [] fields [] w = tt
fitting_row [] fields (v ∷ row) w = absurd w
fitting_row (column ∷ columns) fields [] w = absurd w
fitting_row (column ∷ columns) fields (v ∷ row) w = (fitting_cell column (field_of fields column) v w.0, fitting_row columns fields row w.1)

fitting_rows : (header : List (List ℕ)) (width : ℕ) (records : List (List (List ℕ))) (rows : List (List Val)) → AllZip (IsRowOf (columns_of fact_form header) width) records rows
    → AllByRecursion (FitsRow fact_columns) rows
fitting_rows header width [] [] w = tt
fitting_rows header width [] (row ∷ rows) w = absurd w
fitting_rows header width (fields ∷ records) [] w = absurd w
fitting_rows header width (fields ∷ records) (row ∷ rows) w =
    (fitting_row (columns_of fact_form header) fields row w.0.1, fitting_rows header width records rows w.1)

pub fitting_table : (bytes : List ℕ) (rows : List (List Val)) → IsTableOf fact_form bytes rows → FitsRows fact_columns row_limit rows
fitting_table bytes rows t = (t.rows_are.few, fitting_rows t.header (length t.header) t.records rows t.rows_are.written)
