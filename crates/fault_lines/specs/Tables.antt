-- The fault line of a table.
use Rattle.std.specs.Prelude.{ℕ, List, [], ◌∷◌, ◌++◌, codes, Option, Some, None, slice_index_or}
use Rattle.std.specs.Fmt.{decimal}
use Rattle.table_reader.specs.declared.fault.TableFault.{TableFault}
use Rattle.table_reader.specs.declared.fault.TableKind.{TableKind}
use Rattle.table_reader.specs.declared.fault.TableKind.TheVariants as kind

-- the name of the column at a place among these names, or a dash for none
abbrev pub column_text : List (List ℕ) → Option ℕ → List ℕ
column_text names None = codes "-"
column_text names (Some place) = slice_index_or names place (codes "-")

abbrev pub kind_text : TableKind → List ℕ
kind_text kind.NoHeader = codes "NoHeader"
kind_text kind.MissingColumn = codes "MissingColumn"
kind_text kind.RepeatedColumn = codes "RepeatedColumn"
kind_text kind.FieldCount = codes "FieldCount"
kind_text kind.BadValue = codes "BadValue"
kind_text kind.NullMeasure = codes "NullMeasure"
kind_text kind.DuplicateKey = codes "DuplicateKey"
kind_text kind.TooManyRows = codes "TooManyRows"

-- for a table with columns of these names: the path, the number of the record, the column or a dash, and the kind
abbrev pub bad_table_line : List (List ℕ) → List ℕ → TableFault → List ℕ
bad_table_line names path fault =
    codes "fault: BadTable " ++ (path ++ 32 ∷ (decimal fault.row ++ 32 ∷ (column_text names fault.column ++ 32 ∷ (kind_text fault.kind ++ 10 ∷ []))))
