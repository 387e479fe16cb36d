-- Two parts of a merge, by one dimension, with a count of rows and a set of different values.
use Rattle.std.specs.Prelude.{ℕ, List, [], ◌∷◌}
use Rattle.cell_store.specs.Cells.{CellRows}
use Rattle.cell_store.specs.declared.cell.Cell.TheVariants.{Count, Distinct}
use Rattle.measure_laws.specs.Ids.{ids_of}
use Rattle.measure_laws.specs.declared.measure.MeasureForm.TheVariants as form

abbrev pub first : CellRows
first = record {
  mask = record { 0 = 1 };
  forms = form.Count ∷ form.Distinct ∷ [];
  rows = (0 ∷ [], Count 1 ∷ Distinct (ids_of (0 ∷ [])) ∷ []) ∷ (1 ∷ [], Count 2 ∷ Distinct (ids_of (0 ∷ 1 ∷ [])) ∷ []) ∷ [];
}

abbrev pub second : CellRows
second = record { mask = record { 0 = 1 }; forms = form.Count ∷ form.Distinct ∷ []; rows = (1 ∷ [], Count 3 ∷ Distinct (ids_of (0 ∷ 1 ∷ [])) ∷ []) ∷ [] }

abbrev pub numbers_of_first : List (List ℕ)
numbers_of_first = (0 ∷ 2 ∷ []) ∷ (1 ∷ 2 ∷ []) ∷ []

abbrev pub numbers_of_second : List (List ℕ)
numbers_of_second = (1 ∷ 2 ∷ []) ∷ (0 ∷ 2 ∷ []) ∷ []
