-- What holds of all files.
use Rattle.std.specs.Prelude.{◌≡◌, ℕ, List, Result, Ok, Err}
use Rattle.cube_val.specs.declared.form.TableForm.{TableForm}
use Rattle.cube_val.specs.declared.val.Val.{Val}
use Rattle.table_reader.specs.Tables.{IsFaultOf, IsTableOf}
use Rattle.table_reader.specs.declared.fault.TableFault.{TableFault}

-- what a file is: a table of the form, with its rows, or none, with its first fault
abbrev pub IsOutcome : TableForm → List ℕ → Result (List (List Val)) TableFault → Type 0
IsOutcome form bytes (Ok rows) = IsTableOf form bytes rows
IsOutcome form bytes (Err fault) = IsFaultOf form bytes fault

-- a file is one of them only: with one list of rows, or with one fault
abbrev pub FilesHaveOneOutcome : Type 0
FilesHaveOneOutcome = (form : TableForm) (bytes : List ℕ) (a b : Result (List (List Val)) TableFault) → IsOutcome form bytes a → IsOutcome form bytes b → a ≡ b
