-- The records after the header, read one by one, before keys are compared.
use Rattle.std.specs.Prelude.{◌≡◌, ◌≤◌, ◌<◌, ◌+◌, ◌∷◌, ◌++◌, ◌⊎◌, ℕ, List, [], Option, MatchOption, length}
use Rattle.std.specs.List.{AllZip}
use Rattle.cube_val.specs.Limits.{row_limit}
use Rattle.cube_val.specs.declared.val.Val.{Val}
use Rattle.table_reader.specs.Records.{BeginsWith, HasRecords}
use Rattle.table_reader.specs.Rows.{IsRecordFault, IsRowOf}
use Rattle.table_reader.specs.Tables.{too_many_rows}
use Rattle.table_reader.specs.declared.fault.TableFault.{TableFault}
use Rattle.table_reader.specs.declared.header.Column.{Column}

-- the fault of a record after these rows, keys aside
abbrev pub IsStopAfter : List Column → ℕ → ℕ → List (List ℕ) → TableFault → Type 0
IsStopAfter columns width count fields fault =
    ((count ≡ row_limit) × (fault ≡ too_many_rows)) ⊎ ((count < row_limit) × IsRecordFault columns width (count + 1) fields fault)

-- the rows up to the end of the file, or up to the first record that has a fault by itself
pub record IsBodyOf (columns : List Column) (width : ℕ) (bytes : List ℕ) (header : List (List ℕ)) (rows : List (List Val)) (fault : Option TableFault) : Type 0 where
  pub records : List (List (List ℕ))
  pub written : AllZip (IsRowOf columns width) records rows
  pub few : length rows ≤ row_limit
  pub stop : MatchOption fault (HasRecords bytes (header ∷ records))
      (λ f. (fields : List (List ℕ)) × BeginsWith bytes (header ∷ records ++ fields ∷ []) × IsStopAfter columns width (length rows) fields f)
