-- The row that a record writes, and what is wrong with a record that writes none.
use Rattle.std.specs.Prelude.{◌≡◌, ◌≢◌, ◌⊎◌, ℕ, List, [], true, Some, length, take, slice_get, slice_index_or}
use Rattle.std.specs.List.{AllZip}
use Rattle.cube_val.specs.Values.{Writes}
use Rattle.cube_val.specs.declared.val.Val.{Val}
use Rattle.cube_val.specs.declared.val.Val.TheVariants.{Null}
use Rattle.table_reader.specs.Faults.{fault_in}
use Rattle.table_reader.specs.declared.fault.TableFault.{TableFault}
use Rattle.table_reader.specs.declared.fault.TableKind.{TableKind}
use Rattle.table_reader.specs.declared.fault.TableKind.TheVariants as kind
use Rattle.table_reader.specs.declared.header.Column.{Column}

-- the field that a record has for a column, empty where it has none
abbrev pub field_of : List (List ℕ) → Column → List ℕ
field_of fields column = slice_index_or fields column.place []

-- the field writes the value, which may stand in the column
abbrev pub WritesCell : Column → List ℕ → Val → Type 0
WritesCell column field v = Writes column.ty field v × (column.no_null ≡ true → v ≢ Null)

-- the fields write the row, one value for each column
abbrev pub WritesRow : List Column → List (List ℕ) → List Val → Type 0
WritesRow columns fields row = AllZip (λ column v. WritesCell column (field_of fields column) v) columns row

-- a record is as long as the header, and writes the row
abbrev pub IsRowOf : List Column → ℕ → List (List ℕ) → List Val → Type 0
IsRowOf columns width fields row = (length fields ≡ width) × WritesRow columns fields row

-- why the field writes no value that may stand in the column
abbrev pub IsCellFault : Column → List ℕ → TableKind → Type 0
IsCellFault column field kind.BadValue = (v : Val) → Writes column.ty field v → ⊥
IsCellFault column field kind.NullMeasure = Writes column.ty field Null × (column.no_null ≡ true)
IsCellFault column field k = ⊥

-- the fault is that of the field of this column, which stands at this place of the form
pub record IsFaultOfCell (column : Column) (place row_number : ℕ) (field : List ℕ) (fault : TableFault) : Type 0 where
  pub row : fault.row ≡ row_number
  pub at : fault.column ≡ Some place
  pub wrong : IsCellFault column field fault.kind

-- the fault is that of the first column whose field writes no value that may stand in it
pub record IsFirstCellFault (columns : List Column) (row_number : ℕ) (fields : List (List ℕ)) (fault : TableFault) : Type 0 where
  pub place : ℕ
  pub column : Column
  pub there : slice_get columns place ≡ Some column
  pub before : (vals : List Val) × WritesRow (take place columns) fields vals
  pub cell : IsFaultOfCell column place row_number (field_of fields column) fault

-- the fault of one record by itself: its length, or else the first of its columns that is wrong
abbrev pub IsRecordFault : List Column → ℕ → ℕ → List (List ℕ) → TableFault → Type 0
IsRecordFault columns width row_number fields fault =
    ((length fields ≢ width) × (fault ≡ fault_in row_number kind.FieldCount))
    ⊎ ((length fields ≡ width) × IsFirstCellFault columns row_number fields fault)
