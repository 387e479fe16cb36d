-- Readers of dictionaries and of cell tables: what stands at the front of bytes, with the bytes after it, or nothing.
use Rattle.std.specs.Prelude.{ℕ, ℤ, Bool, true, false, ◌-◌, ◌*◌, ◌==◌, ◌&&◌, nat_abs, nat_le, nat_lt, List, [], ◌∷◌, Option, None, Some, length, if◌then◌else◌}
use Rattle.std.specs.Int.{w32, w64, w128}
use Rattle.std.specs.List.{list_all}
use Rattle.std.specs.Ordering.{nat_cmp}
use Rattle.agg_group.specs.declared.mask.Mask.{Mask}
use Rattle.byte_frame.specs.Reading.{as_at, counted_at, each_at, if_at, list_at, number_at, signed_at, then_at}
use Rattle.byte_frame.specs.Spelling.{rises}
use Rattle.cell_store.specs.declared.cell.Cell.{Cell}
use Rattle.cell_store.specs.declared.cell.Cell.TheVariants.{Count, Known, Sum, Min, Max, Distinct}
use Rattle.cell_store.specs.Cells.{CellRows, key_cmp}
use Rattle.cube_val.specs.declared.val.Val.{Val}
use Rattle.cube_val.specs.Order.{val_cmp}
use Rattle.measure_laws.specs.declared.measure.MeasureForm.{MeasureForm}
use Rattle.measure_laws.specs.declared.measure.MeasureForm.TheVariants as measure
use Rattle.measure_laws.specs.Ids.{Ids, different, rises-different}
use Rattle.measure_laws.specs.Measures.{most_of_item}
use Rattle.step_fields.specs.Reading.{val_at}
use Rattle.cube_fields.specs.Cells.{are_ordered, count_in, measures_of, sizes_in}
use Rattle.cube_fields.specs.Orders.{before}
use Rattle.cube_fields.specs.declared.dicts.DictForm.{DictForm}
use Rattle.cube_fields.specs.declared.forms.CellField.{CellField}
use Rattle.cube_fields.specs.declared.forms.CellTableForm.{CellTableForm}

-- ---- dictionaries

abbrev pub dict_at : DictForm → List ℕ → Option (List Val × List ℕ)
dict_at f = if_at (rises (before val_cmp)) (list_at f.limit (val_at f.column))

abbrev pub dicts_at : List DictForm → List ℕ → Option (List (List Val) × List ℕ)
dicts_at forms = counted_at dict_at forms

-- ---- cells

abbrev pub id_at : ℕ → List ℕ → Option (ℕ × List ℕ)
id_at size = if_at (λ id. nat_lt id size) (number_at w32)

abbrev pub is_some_list : List ℕ → Bool
is_some_list ids = nat_lt 0 (length ids)

-- numbers that rise, at least one and at most so many
abbrev pub ids_at : ℕ → ℕ → List ℕ → Option (List ℕ × List ℕ)
ids_at n size = if_at is_some_list (if_at (rises (before nat_cmp)) (list_at n (id_at size)))

abbrev pub sum_at : ℕ → List ℕ → Option (ℤ × List ℕ)
sum_at n = if_at (λ total. nat_le (nat_abs total) (n * most_of_item)) (signed_at w128)

-- the set of these numbers, of so many items
abbrev pub set_of : ℕ → List ℕ → Ids
set_of n ids = record { items = n; ids = different ids; rising = rises-different ids }

abbrev pub sum_of : ℕ → ℤ → Cell
sum_of n total = Sum (record { items = n; total = total })

abbrev pub least_of : ℕ → ℤ → Cell
least_of n v = Min (record { items = n; value = Some v })

abbrev pub greatest_of : ℕ → ℤ → Cell
greatest_of n v = Max (record { items = n; value = Some v })

abbrev pub distinct_of : ℕ → List ℕ → Cell
distinct_of n ids = Distinct (set_of n ids)

-- a cell of the form, of so many items, with numbers of a dictionary of the size; a second count of rows is none, and a count of
-- known values has no byte
abbrev pub form_at : ℕ → ℕ → MeasureForm → List ℕ → Option (Cell × List ℕ)
form_at n size measure.Count bytes = None
form_at n size measure.Known bytes = Some (Known n, bytes)
form_at n size measure.Sum bytes = as_at (sum_of n) (sum_at n) bytes
form_at n size measure.Min bytes = as_at (least_of n) (signed_at w64) bytes
form_at n size measure.Max bytes = as_at (greatest_of n) (signed_at w64) bytes
form_at n size measure.Distinct bytes = as_at (distinct_of n) (ids_at n size) bytes

unfoldable pub cell_at : ℕ → CellField → List ℕ → Option (Cell × List ℕ)
cell_at n field bytes = form_at n field.size field.form bytes

-- a count of at least 1 and at most so many
abbrev pub count_at : ℕ → List ℕ → Option (ℕ × List ℕ)
count_at most = if_at (λ n. nat_le 1 n && nat_le n most) (number_at w64)

-- the cells behind a count, with it
unfoldable pub counted_cells_at : ℕ → List CellField → List ℕ → Option (List Cell × List ℕ)
counted_cells_at n fields = as_at (λ cells. Count n ∷ cells) (each_at (cell_at n) fields)

-- a count, and the cells behind it
abbrev pub cells_at : ℕ → List CellField → List ℕ → Option (List Cell × List ℕ)
cells_at most fields = as_at (λ p. p.1) (then_at (count_at most) (λ n. counted_cells_at n fields))

-- ---- tables

unfoldable pub row_at : List ℕ → CellTableForm → List ℕ → Option ((List ℕ × List Cell) × List ℕ)
row_at sizes f = if_at (λ row. list_all (are_ordered row.1) f.extremes) (then_at (each_at id_at sizes) (λ _. cells_at f.most f.cells))

abbrev pub key_before : List ℕ × List Cell → List ℕ × List Cell → Bool
key_before a b = before key_cmp a.0 b.0

-- the counts are together at most so many
abbrev pub counts_fit : ℕ → List (List ℕ × List Cell) → Bool
counts_fit most [] = true
counts_fit most (row ∷ rows) = if nat_le (count_in row.1) most then counts_fit (most - count_in row.1) rows else false

abbrev pub rows_at : List ℕ → CellTableForm → List ℕ → Option (List (List ℕ × List Cell) × List ℕ)
rows_at sizes f = if_at (counts_fit f.most) (if_at (rises key_before) (list_at f.most (row_at sizes f)))

abbrev pub table_from : CellTableForm → ℕ × List (List ℕ × List Cell) → CellRows
table_from f p = record { mask = record { 0 = p.0 }; forms = measures_of f; rows = p.1 }

unfoldable pub table_at : CellTableForm → Mask → List ℕ → Option (CellRows × List ℕ)
table_at f mask = as_at (table_from f) (then_at (if_at (λ m. m == mask.0) (number_at w64)) (λ _. rows_at (sizes_in f.sizes mask) f))

abbrev pub tables_at : CellTableForm → List Mask → List ℕ → Option (List CellRows × List ℕ)
tables_at f masks = counted_at (table_at f) masks
