-- The table files of a form, and the first fault of every other file.
use Rattle.std.specs.Prelude.{◌≡◌, ◌≤◌, ◌<◌, ◌+◌, ◌∷◌, ◌++◌, ◌⊎◌, ℕ, List, [], Some, None, length}
use Rattle.std.specs.List.{AllZip}
use Rattle.cube_val.specs.Limits.{row_limit}
use Rattle.cube_val.specs.declared.form.TableForm.{TableForm}
use Rattle.cube_val.specs.declared.val.Val.{Val}
use Rattle.table_reader.specs.Columns.{columns_of, header_fault}
use Rattle.table_reader.specs.Faults.{fault_in}
use Rattle.table_reader.specs.Keys.{HasDistinctKeys, Repeats}
use Rattle.table_reader.specs.Records.{BeginsWith, HasRecords}
use Rattle.table_reader.specs.Rows.{IsRecordFault, IsRowOf}
use Rattle.table_reader.specs.declared.fault.TableFault.{TableFault}
use Rattle.table_reader.specs.declared.fault.TableKind.TheVariants as kind

-- the records after the header write the rows, which are not too many and repeat no key
pub record AreRowsOf (form : TableForm) (header : List (List ℕ)) (records : List (List (List ℕ))) (rows : List (List Val)) : Type 0 where
  pub written : AllZip (IsRowOf (columns_of form header) (length header)) records rows
  pub few : length rows ≤ row_limit
  pub distinct : HasDistinctKeys form.key rows

-- a file is a table of the form, with these rows
pub record IsTableOf (form : TableForm) (bytes : List ℕ) (rows : List (List Val)) : Type 0 where
  pub header : List (List ℕ)
  pub records : List (List (List ℕ))
  pub all : HasRecords bytes (header ∷ records)
  pub named : header_fault form.cols header ≡ None
  pub rows_are : AreRowsOf form header records rows

-- the fault of a file without a header
abbrev pub no_header : TableFault
no_header = fault_in 0 kind.NoHeader

abbrev pub too_many_rows : TableFault
too_many_rows = fault_in (row_limit + 1) kind.TooManyRows

abbrev pub duplicate_key : ℕ → TableFault
duplicate_key row_number = fault_in row_number kind.DuplicateKey

-- the first fault of a record that comes after these rows: that it comes after the last that a table may have, or what
-- is wrong with it by itself, or that it repeats a key
abbrev pub IsFaultAfter : TableForm → List (List ℕ) → List (List Val) → List (List ℕ) → TableFault → Type 0
IsFaultAfter form header rows fields fault =
    ((length rows ≡ row_limit) × (fault ≡ too_many_rows))
    ⊎ ((length rows < row_limit) × IsRecordFault (columns_of form header) (length header) (length rows + 1) fields fault)
    ⊎ ((length rows < row_limit) × (row : List Val) × IsRowOf (columns_of form header) (length header) fields row
    × Repeats form.key rows row × (fault ≡ duplicate_key (length rows + 1)))

-- the header of a file has this as its first fault
pub record HasHeaderFault (form : TableForm) (bytes : List ℕ) (fault : TableFault) : Type 0 where
  pub header : List (List ℕ)
  pub first : BeginsWith bytes (header ∷ [])
  pub at_fault : header_fault form.cols header ≡ Some fault

-- the header of a file is right, and this is the first fault of the first of its further records that has one
pub record HasRowFault (form : TableForm) (bytes : List ℕ) (fault : TableFault) : Type 0 where
  pub header : List (List ℕ)
  pub records : List (List (List ℕ))
  pub fields : List (List ℕ)
  pub first : BeginsWith bytes (header ∷ records ++ fields ∷ [])
  pub named : header_fault form.cols header ≡ None
  pub rows : List (List Val)
  pub rows_are : AreRowsOf form header records rows
  pub at_fault : IsFaultAfter form header rows fields fault

-- the first fault of a file that is no table of the form
abbrev pub IsFaultOf : TableForm → List ℕ → TableFault → Type 0
IsFaultOf form bytes fault = (HasRecords bytes [] × (fault ≡ no_header)) ⊎ HasHeaderFault form bytes fault ⊎ HasRowFault form bytes fault
