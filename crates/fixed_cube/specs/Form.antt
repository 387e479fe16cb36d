-- The form of the fact table.
use Rattle.std.specs.Prelude.{[], ◌∷◌, true, false, codes}
use Rattle.cube_val.specs.declared.val.ColType.TheVariants as ty
use Rattle.cube_val.specs.declared.form.TableForm.{TableForm}

-- the columns DT, D1, D2 and M; no null stands in M, and there is no key
abbrev pub fact_form : TableForm
fact_form = record {
  cols = record { name = codes "DT"; ty = ty.Date } ∷ record { name = codes "D1"; ty = ty.Text } ∷ record { name = codes "D2"; ty = ty.Text } ∷ record { name = codes "M"; ty = ty.Int } ∷ [];
  no_null = false ∷ false ∷ false ∷ true ∷ [];
  key = [];
}
