-- What holds of all tables that are read.
use Rattle.std.specs.Prelude.{◌≡◌, ℕ, List, length}
use Rattle.cube_val.specs.declared.form.TableForm.{TableForm}
use Rattle.cube_val.specs.declared.val.Val.{Val}
use Rattle.table_reader.specs.Tables.{IsTableOf}
use Rattle.flat_join.specs.Fits.{IsTable}

-- the rows of a file that is a table of a form fit the form
abbrev pub ReadTablesFit : Type 0
ReadTablesFit = (form : TableForm) (bytes : List ℕ) (rows : List (List Val)) → length form.no_null ≡ length form.cols → IsTableOf form bytes rows → IsTable form rows
