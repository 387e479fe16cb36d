-- The columns of the fixed cube.
use Rattle.std.specs.Prelude.{ℕ, List, [], ◌∷◌, true, false}
use Rattle.cube_val.specs.declared.val.ColType.TheVariants as ty
use Rattle.step_fields.specs.declared.column.Column.{Column}

abbrev date : Column
date = record { ty = ty.Date; no_null = false }

abbrev text : Column
text = record { ty = ty.Text; no_null = false }

abbrev number : Column
number = record { ty = ty.Int; no_null = true }

-- the fact table F: DT, D1, D2, M
abbrev pub fact_columns : List Column
fact_columns = date ∷ text ∷ text ∷ number ∷ []

-- a joined row: D1, D2, M
abbrev pub joined_columns : List Column
joined_columns = text ∷ text ∷ number ∷ []

-- a key of the base cuboid: D1, D2
abbrev pub key_columns : List Column
key_columns = text ∷ text ∷ []

-- the most rows of a table, of a task and of a product
abbrev pub row_limit : ℕ
row_limit = 200_000
