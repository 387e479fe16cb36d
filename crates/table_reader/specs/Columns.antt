-- The columns of a form in the header of a file.
use Rattle.std.specs.Prelude.{◌==◌, ℕ, List, [], ◌∷◌, Bool, Option, Some, count_by, nat_lt, option_map, position}
use Rattle.std.specs.List.{position_or_len}
use Rattle.std.specs.Option.{option_or}
use Rattle.std.specs.Str.{str_eq_ignore_ascii_case}
use Rattle.cube_val.specs.declared.form.ColDesc.{ColDesc}
use Rattle.cube_val.specs.declared.form.TableForm.{TableForm}
use Rattle.table_reader.specs.declared.fault.TableFault.{TableFault}
use Rattle.table_reader.specs.declared.fault.TableKind.{TableKind}
use Rattle.table_reader.specs.declared.fault.TableKind.TheVariants as kind
use Rattle.table_reader.specs.declared.header.Column.{Column}

-- whether a field of the header names the column: names are compared without regard to ASCII case
abbrev pub names : ColDesc → List ℕ → Bool
names column field = str_eq_ignore_ascii_case field column.name

-- how many fields of the header name the column
abbrev pub times_in : List (List ℕ) → ColDesc → ℕ
times_in header column = count_by (names column) header

abbrev pub is_missing : List (List ℕ) → ColDesc → Bool
is_missing header column = times_in header column == 0

abbrev pub is_repeated : List (List ℕ) → ColDesc → Bool
is_repeated header column = nat_lt 1 (times_in header column)

-- a fault of the header at a column of the form
abbrev pub header_fault_at : TableKind → ℕ → TableFault
header_fault_at k place = record { row = 0; column = Some place; kind = k }

-- the first fault of the header: the first column of the form that is missing, or else the first that stands twice
abbrev pub header_fault : List ColDesc → List (List ℕ) → Option TableFault
header_fault columns header =
    option_or (option_map (header_fault_at kind.MissingColumn) (position (is_missing header) columns))
    (option_map (header_fault_at kind.RepeatedColumn) (position (is_repeated header) columns))

-- a column as it is read: with the place of the first field of the header that names it
abbrev pub column_in : List (List ℕ) → ColDesc → Bool → Column
column_in header column no_null = record { ty = column.ty; no_null = no_null; place = position_or_len (names column) header }

abbrev pub columns_in : List (List ℕ) → List ColDesc → List Bool → List Column
columns_in header [] no_nulls = []
columns_in header (column ∷ columns) [] = []
columns_in header (column ∷ columns) (no_null ∷ no_nulls) = column_in header column no_null ∷ columns_in header columns no_nulls

-- the columns of the form as they are read
abbrev pub columns_of : TableForm → List (List ℕ) → List Column
columns_of form header = columns_in header form.cols form.no_null
