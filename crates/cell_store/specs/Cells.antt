-- Cells, and tables of cells by their keys.
use Rattle.std.specs.Prelude.{◌≡◌, ◌≤◌, ◌<◌, ◌+◌, ℕ, ℤ, List, [], All, length, map, option_map, slice_get, sum_by, unwrap_or}
use Rattle.std.specs.declared.cmp.Ordering.{Ordering}
use Rattle.std.specs.Cmp.Lexicographic.{slice_cmp}
use Rattle.std.specs.List.Sorted.{IsStrictlySortedBy}
use Rattle.std.specs.Ordering.{nat_cmp}
use Rattle.agg_group.specs.declared.mask.Mask.{Mask}
use Rattle.agg_group.specs.Mask.{count_of}
use Rattle.measure_laws.specs.declared.measure.MeasureForm.{MeasureForm}
use Rattle.measure_laws.specs.declared.measure.MeasureForm.TheVariants as form
use Rattle.measure_laws.specs.Extremes.{greatest_of, least_of, merged_greatest, merged_least}
use Rattle.measure_laws.specs.Ids.{ids_of, merged_ids}
use Rattle.measure_laws.specs.Measures.{merged_sum, most_items, summed}
use Rattle.cell_store.specs.declared.cell.Cell.{Cell}
use Rattle.cell_store.specs.declared.cell.Cell.TheVariants.{Count, Known, Sum, Min, Max, Distinct}
use Rattle.cell_store.specs.declared.cell.RowItem.{RowItem}

-- ---- a cell

abbrev pub numbers_of_items : List RowItem → List ℤ
numbers_of_items items = map (λ item. item.number) items

abbrev pub ids_of_items : List RowItem → List ℕ
ids_of_items items = map (λ item. item.id) items

-- the cell of a form that items of rows come to
abbrev pub cell_of_items : MeasureForm → List RowItem → Cell
cell_of_items form.Count items = Count (length items)
cell_of_items form.Known items = Known (length items)
cell_of_items form.Sum items = Sum (summed (numbers_of_items items))
cell_of_items form.Min items = Min (least_of (numbers_of_items items))
cell_of_items form.Max items = Max (greatest_of (numbers_of_items items))
cell_of_items form.Distinct items = Distinct (ids_of (ids_of_items items))

-- the cell of no item
abbrev pub no_cell : MeasureForm → Cell
no_cell form = cell_of_items form []

-- two cells of one form, merged; cells of two forms are never merged, and the first stays as it is
abbrev pub merged_cell : Cell → Cell → Cell
merged_cell (Count a) (Count b) = Count (a + b)
merged_cell (Known a) (Known b) = Known (a + b)
merged_cell (Sum a) (Sum b) = Sum (merged_sum a b)
merged_cell (Min a) (Min b) = Min (merged_least a b)
merged_cell (Max a) (Max b) = Max (merged_greatest a b)
merged_cell (Distinct a) (Distinct b) = Distinct (merged_ids a b)
merged_cell a b = a

-- the form of measure that a cell has
abbrev pub form_of : Cell → MeasureForm
form_of (Count c) = form.Count
form_of (Known c) = form.Known
form_of (Sum s) = form.Sum
form_of (Min m) = form.Min
form_of (Max m) = form.Max
form_of (Distinct d) = form.Distinct

-- how many items a cell is of
abbrev pub items_of : Cell → ℕ
items_of (Count c) = c
items_of (Known c) = c
items_of (Sum s) = s.items
items_of (Min m) = m.items
items_of (Max m) = m.items
items_of (Distinct d) = d.items

-- the dictionary numbers that a cell keeps
abbrev pub ids_in : Cell → List ℕ
ids_in (Distinct d) = d.ids
ids_in c = []

-- a cell without its dictionary numbers: it still tells of how many items it is
abbrev pub without_ids : Cell → Cell
without_ids (Distinct d) = Distinct (record (ids_of []) { items = d.items })
without_ids c = c

-- how many items the cell at a place is of
abbrev pub items_at : ℕ → List Cell → ℕ
items_at k cells = unwrap_or (option_map items_of (slice_get cells k)) 0

-- ---- tables

-- keys are ordered by their first different number
abbrev pub key_cmp : List ℕ → List ℕ → Ordering
key_cmp = slice_cmp nat_cmp

-- for each form the items of its cells in all rows are together few enough
abbrev pub ItemsAreFew : List MeasureForm → List (List ℕ × List Cell) → Type 0
ItemsAreFew forms rows = (k : ℕ) → k < length forms → sum_by (λ row. items_at k row.1) rows ≤ most_items

-- a table keeps that each row has a number for each dimension of the mask and a cell for each form, and that the keys rise strictly
pub record IsCellTable (mask : Mask) (forms : List MeasureForm) (rows : List (List ℕ × List Cell)) : Type 0 where
  pub widths : All (λ row. length row.0 ≡ count_of mask) rows
  pub cells : All (λ row. map form_of row.1 ≡ forms) rows
  pub rising : IsStrictlySortedBy key_cmp (map (λ row. row.0) rows)
  pub few : ItemsAreFew forms rows

-- what contracts see of a table: the mask of its dimensions, the forms of its cells, and its rows
pub record CellRows : Type 0 where
  pub mask : Mask
  pub forms : List MeasureForm
  pub rows : List (List ℕ × List Cell)
