-- The base cuboid: the aggregate of flat rows by all rowkey columns, in dictionary numbers.
use Rattle.std.specs.Prelude.{◌≡◌, ◌+◌, ◌-◌, ◌^◌, ℕ, pos, List, [], ◌∷◌, Option, Some, None, count_by, length, map, option_map, slice_get, unwrap_or}
use Rattle.std.specs.Ordering.{is_lt}
use Rattle.agg_group.specs.declared.mask.Mask.{Mask}
use Rattle.agg_group.specs.Sets.{dimensions}
use Rattle.measure_laws.specs.declared.kinds.ItemKind.{ItemKind}
use Rattle.measure_laws.specs.declared.kinds.ItemKind.TheVariants.{Rows, Values, Numbers, Ids}
use Rattle.measure_laws.specs.Kinds.{dict_after, item_kind}
use Rattle.cube_val.specs.declared.val.Val.{Val}
use Rattle.cube_val.specs.declared.val.Val.TheVariants.{Null}
use Rattle.cube_val.specs.Order.{val_cmp}
use Rattle.plain_answer.specs.declared.ask.Agg.{Agg}
use Rattle.plain_answer.specs.declared.ask.AggKind.{AggKind}
use Rattle.plain_answer.specs.Aggregates.{cell, known, number_in as number_if_any}
use Rattle.plain_answer.specs.Kinds.{form_of_kind}
use Rattle.cell_store.specs.Cells.{CellRows}
use Rattle.cell_store.specs.declared.cell.Cell.{Cell}
use Rattle.cell_store.specs.declared.cell.RowItem.{RowItem}
use Rattle.cell_gather.specs.Gathers.{RowMeasure, aggregated}

-- the number of a value in a dictionary: how many of its values are less
abbrev pub number_in : List Val → Val → ℕ
number_in dict v = count_by (λ w. is_lt (val_cmp w v)) dict

-- the dictionary at a place
abbrev pub dict_at : List (List Val) → ℕ → List Val
dict_at dicts place = unwrap_or (slice_get dicts place) []

-- the key of a row: the number of its value in each of so many columns
abbrev pub key_in : List (List Val) → ℕ → List Val → List ℕ
key_in dicts width row = map (λ column. number_in (dict_at dicts column) (cell row column)) (dimensions width)

-- a row's value in the column that an aggregate names
abbrev pub value_at : Option ℕ → List Val → Val
value_at None row = Null
value_at (Some column) row = cell row column

-- what a measure of these items takes of a value in its column: nothing of a null, and of what is no number no number
abbrev pub item_of : ItemKind → List Val → Val → Option RowItem
item_of Rows dict v = Some (record { number = pos 0; id = 0 })
item_of Values dict v = option_map (λ w. record { number = pos 0; id = 0 }) (known v)
item_of Numbers dict v = option_map (λ n. record { number = n; id = 0 }) (number_if_any v)
item_of Ids dict v = option_map (λ w. record { number = pos 0; id = number_in dict w }) (known v)

-- an aggregate as a measure of rows, with the dictionary of its column, if it has one
abbrev pub measure_of : Agg → List Val → RowMeasure (List Val)
measure_of agg dict = record {
  form = form_of_kind agg.kind;
  item = λ row. item_of (item_kind (form_of_kind agg.kind)) dict (value_at agg.column row);
}

-- the place of the dictionary after an aggregate: each COUNT_DISTINCT has one, in order
abbrev pub next_after : AggKind → ℕ → ℕ
next_after kind place = dict_after (form_of_kind kind) place

-- aggregates as measures of rows, where the dictionaries of the COUNT_DISTINCTs begin at a place
abbrev pub measures_from : List (List Val) → ℕ → List Agg → List (RowMeasure (List Val))
measures_from dicts place [] = []
measures_from dicts place (agg ∷ aggs) = measure_of agg (dict_at dicts place) ∷ measures_from dicts (next_after agg.kind place) aggs

-- how many of the aggregates are COUNT_DISTINCTs
abbrev pub count_of_distincts : List Agg → ℕ
count_of_distincts [] = 0
count_of_distincts (agg ∷ aggs) = next_after agg.kind (count_of_distincts aggs)

-- how many rowkey columns there are: as many as dictionaries, but those of the COUNT_DISTINCTs
abbrev pub key_width : List Agg → List (List Val) → ℕ
key_width aggs dicts = length dicts - count_of_distincts aggs

-- the mask of the first dimensions
abbrev pub base_mask : ℕ → Mask
base_mask width = record { 0 = 2 ^ width - 1 }

-- the rows of the base cuboid
abbrev pub base_rows : List Agg → List (List Val) → List (List Val) → List (List ℕ × List Cell)
base_rows aggs dicts rows = aggregated (measures_from dicts (key_width aggs dicts) aggs) (key_in dicts (key_width aggs dicts)) rows

-- a table is the base cuboid of rows
pub record IsBase (aggs : List Agg) (dicts : List (List Val)) (flat : List (List Val)) (table : CellRows) : Type 0 where
  pub mask : table.mask ≡ base_mask (key_width aggs dicts)
  pub forms : table.forms ≡ map (λ agg. form_of_kind agg.kind) aggs
  pub rows : table.rows ≡ base_rows aggs dicts flat
