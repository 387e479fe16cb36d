-- The cuboid of D1 in dictionary numbers, from which the text is made.
use Rattle.std.specs.Prelude.{◌≡◌, ◌<◌, ℕ, List, [], ◌∷◌, Some, length, map, slice_index_or}
use Rattle.agg_group.specs.declared.mask.Mask.{Mask}
use Rattle.cell_store.specs.Cells.{form_of}
use Rattle.cell_store.specs.declared.cell.Cell.{Cell}
use Rattle.cell_store.specs.declared.cell.Cell.TheVariants.{Count, Sum}
use Rattle.cube_val.specs.declared.val.ColType.TheVariants as ty
use Rattle.cube_val.specs.declared.val.Val.{Val}
use Rattle.cube_val.specs.declared.val.Val.TheVariants.{Null}
use Rattle.dim_dictionary.specs.Dictionaries.{dictionary_of}
use Rattle.measure_laws.specs.Measures.{Summed, summed}
use Rattle.measure_laws.specs.declared.measure.MeasureForm.TheVariants as form
use Rattle.plain_answer.specs.Aggregates.{cell}
use Rattle.plain_answer.specs.declared.ask.Agg.{Agg}
use Rattle.plain_answer.specs.declared.ask.AggKind.TheVariants as kind
use Rattle.cubes_plain.specs.Folds.{group_line}

-- the dimension D1 alone
abbrev pub d1_alone : Mask
d1_alone = record { 0 = 1 }

-- the sum of M
abbrev pub sum_of_m : Agg
sum_of_m = record { kind = kind.Sum; column = Some 2; ty = ty.Int }

-- the dictionary of a column
abbrev pub column_dict : List (List Val) → ℕ → List Val
column_dict rows place = dictionary_of (map (λ row. cell row place) rows)

-- the dictionaries of D1 and of D2
abbrev pub dicts_of : List (List Val) → List (List Val)
dicts_of rows = column_dict rows 0 ∷ column_dict rows 1 ∷ []

-- the sum in a cell; another measure reads as that of no number
abbrev pub sum_in : Cell → Summed
sum_in (Sum s) = s
sum_in c = summed []

-- a row of a cuboid of one dimension and one sum: its key is a number of the dictionary
pub record IsSumRow (dict : List Val) (row : List ℕ × List Cell) : Type 0 where
  pub width : length row.0 ≡ 1
  pub number : slice_index_or row.0 0 0 < length dict
  pub forms : map form_of row.1 ≡ form.Sum ∷ []

-- the line of such a row: that of the value of its number, with its sum
abbrev pub row_line : List Val → List ℕ × List Cell → List ℕ
row_line dict row = group_line (slice_index_or dict (slice_index_or row.0 0 0) Null, sum_in (slice_index_or row.1 0 (Count 0)))
