-- A small form, and headers of files.
use Rattle.std.specs.Prelude.{ℕ, List, [], ◌∷◌, codes, true, false}
use Rattle.cube_val.specs.declared.form.TableForm.{TableForm}
use Rattle.cube_val.specs.declared.val.ColType.TheVariants as ty

-- a date and a number, which isn't null; the date is the key
abbrev pub dated : TableForm
dated = record {
  cols = record { name = codes "DT"; ty = ty.Date } ∷ record { name = codes "M"; ty = ty.Int } ∷ [];
  no_null = false ∷ true ∷ [];
  key = 0 ∷ [];
}

abbrev pub header_of : List ℕ → List ℕ → List ℕ → List (List ℕ)
header_of a b c = a ∷ b ∷ c ∷ []
