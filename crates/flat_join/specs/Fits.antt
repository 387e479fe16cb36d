-- The rows of a table that fit its form.
use Rattle.std.specs.Prelude.{◌≡◌, ◌≢◌, List, Bool, true, All}
use Rattle.std.specs.List.{AllZip, zip}
use Rattle.cube_val.specs.Values.{FitsType}
use Rattle.cube_val.specs.declared.form.ColDesc.{ColDesc}
use Rattle.cube_val.specs.declared.form.TableForm.{TableForm}
use Rattle.cube_val.specs.declared.val.Val.{Val}
use Rattle.cube_val.specs.declared.val.Val.TheVariants.{Null}
use Rattle.table_reader.specs.Keys.{HasDistinctKeys}

-- a value of the column's type, and no null where the column has none
abbrev pub FitsColumn : ColDesc × Bool → Val → Type 0
FitsColumn column v = FitsType column.0.ty v × (column.1 ≡ true → v ≢ Null)

-- one value for each column
abbrev pub FitsRow : TableForm → List Val → Type 0
FitsRow form row = AllZip FitsColumn (zip form.cols form.no_null) row

-- the rows are those of a table of the form: each fits, and none repeats the key of an earlier one
pub record IsTable (form : TableForm) (rows : List (List Val)) : Type 0 where
  pub fit : All (FitsRow form) rows
  pub distinct : HasDistinctKeys form.key rows
