-- The table file of `fold`.
use Rattle.std.specs.Prelude.{ℕ, List, [], ◌∷◌, codes, true, false}
use Rattle.cube_val.specs.declared.form.ColDesc.{ColDesc}
use Rattle.cube_val.specs.declared.form.TableForm.{TableForm}
use Rattle.cube_val.specs.declared.val.ColType.{ColType}
use Rattle.cube_val.specs.declared.val.ColType.TheVariants as ty
use Rattle.cube_val.specs.declared.val.Val.{Val}
use Rattle.table_reader.specs.Tables.{IsFaultOf, IsTableOf}
use Rattle.table_reader.specs.declared.fault.TableFault.{TableFault}

abbrev pub column : List ℕ → ColType → ColDesc
column name t = record { name = name; ty = t }

-- the columns of the file: two texts, and a number that is not null
abbrev pub fold_form : TableForm
fold_form = record {
  cols = column (codes "D1") ty.Text ∷ column (codes "D2") ty.Text ∷ column (codes "M") ty.Int ∷ [];
  no_null = false ∷ false ∷ true ∷ [];
  key = [];
}

-- a file of `fold` with these rows
abbrev pub IsFoldTable : List ℕ → List (List Val) → Type 0
IsFoldTable bytes rows = IsTableOf fold_form bytes rows

-- the first fault of a file that is none
abbrev pub IsFoldFault : List ℕ → TableFault → Type 0
IsFoldFault bytes fault = IsFaultOf fold_form bytes fault

-- the names of its columns
abbrev pub fold_names : List (List ℕ)
fold_names = codes "D1" ∷ codes "D2" ∷ codes "M" ∷ []
