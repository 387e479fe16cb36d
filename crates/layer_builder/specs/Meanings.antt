-- What a cuboid means: its keys and its sets of different values in values, not in the numbers of dictionaries.
use Rattle.std.specs.Prelude.{◌≡◌, ℕ, List, [], ◌∷◌, All, Contains, IsTrue, if◌then◌else◌, map, slice_index_or}
use Rattle.std.specs.List.{filter_map}
use Rattle.std.specs.List.Sorted.{IsStrictlySortedBy}
use Rattle.agg_group.specs.declared.mask.Mask.{Mask}
use Rattle.aggregation.specs.Groups.{aggregate, distinct}
use Rattle.cell_gather.specs.Keys.{dims_of}
use Rattle.cell_store.specs.Cells.{CellRows, cell_of_items, ids_in, without_ids}
use Rattle.cell_store.specs.declared.cell.Cell.{Cell}
use Rattle.cube_val.specs.declared.val.Val.{Val}
use Rattle.cube_val.specs.declared.val.Val.TheVariants.{Null}
use Rattle.cube_val.specs.Order.{row_cmp, val_cmp}
use Rattle.measure_laws.specs.declared.measure.MeasureForm.{MeasureForm}
use Rattle.measure_laws.specs.Kinds.{has_dictionary, item_kind}
use Rattle.plain_answer.specs.Aggregates.{cell, known}
use Rattle.plain_answer.specs.declared.ask.Agg.{Agg}
use Rattle.plain_answer.specs.Kinds.{form_of_kind}
use Rattle.layer_builder.specs.Base.{dict_at, item_of, key_width, next_after, value_at}
use Rattle.layer_builder.specs.Cuboids.{IsCuboid}

-- ---- rows in values

-- a measure of the rows of a group, with values where a cell has numbers of a dictionary
pub record ValueCell : Type 0 where
  -- the cell without these numbers
  pub cell : Cell
  -- the values that they are of
  pub values : List Val

-- the values of a column in rows, those that aren't null
abbrev pub known_in : (List Val → Val) → List (List Val) → List Val
known_in value rows = filter_map (λ row. known (value row)) rows

-- the different values of those, where a measure of the form keeps them
abbrev pub values_kept : MeasureForm → List Val → List Val
values_kept form vs = if has_dictionary form then distinct val_cmp vs else []

-- what a measure of the form over a column makes of rows, without a dictionary
abbrev pub value_of_form : MeasureForm → (List Val → Val) → List (List Val) → ValueCell
value_of_form form value rows = record {
  cell = without_ids (cell_of_items form (filter_map (λ row. item_of (item_kind form) [] (value row)) rows));
  values = values_kept form (known_in value rows);
}

abbrev pub values_of_aggs : List Agg → List (List Val) → List ValueCell
values_of_aggs aggs rows = map (λ agg. value_of_form (form_of_kind agg.kind) (value_at agg.column) rows) aggs

-- a row's values in some columns
abbrev pub values_by : List ℕ → List Val → List Val
values_by columns row = map (cell row) columns

-- the aggregate of rows by some dimensions, in values: it knows no dictionary
abbrev pub value_rows : List Agg → Mask → List (List Val) → List (List Val × List ValueCell)
value_rows aggs dims rows = aggregate row_cmp (values_by (dims_of dims)) (λ row. row) (values_of_aggs aggs) rows

-- ---- what the rows of a table mean over dictionaries

-- the value that has a number in a dictionary
abbrev pub value_in : List Val → ℕ → Val
value_in dict id = slice_index_or dict id Null

-- the values of a key, where its numbers are of these dictionaries
abbrev pub key_values : List (List Val) → List ℕ → List Val
key_values [] ids = []
key_values (dict ∷ dicts) [] = []
key_values (dict ∷ dicts) (id ∷ ids) = value_in dict id ∷ key_values dicts ids

-- a cell with the values of its numbers in a dictionary
abbrev pub cell_values : List Val → Cell → ValueCell
cell_values dict c = record { cell = without_ids c; values = map (value_in dict) (ids_in c) }

-- the cells of aggregates, where the dictionaries of the COUNT_DISTINCTs begin at a place
abbrev pub cells_values : List (List Val) → ℕ → List Agg → List Cell → List ValueCell
cells_values dicts place [] cells = []
cells_values dicts place (agg ∷ aggs) [] = []
cells_values dicts place (agg ∷ aggs) (c ∷ cells) = cell_values (dict_at dicts place) c ∷ cells_values dicts (next_after agg.kind place) aggs cells

-- the meaning of the rows of a cuboid
abbrev pub meaning : List Agg → List (List Val) → Mask → List (List ℕ × List Cell) → List (List Val × List ValueCell)
meaning aggs dicts dims rows = map (λ row. (key_values (map (dict_at dicts) (dims_of dims)) row.0, cells_values dicts (key_width aggs dicts) aggs row.1)) rows

-- ---- the law

-- the dictionary rises and has the value of each row
pub record HasValues (dict : List Val) (value : List Val → Val) (rows : List (List Val)) : Type 0 where
  pub rising : IsStrictlySortedBy val_cmp dict
  pub there : All (λ row. Contains dict (value row)) rows

-- the dictionary rises and has the value of each row where that isn't null
pub record HasKnown (dict : List Val) (value : List Val → Val) (rows : List (List Val)) : Type 0 where
  pub rising : IsStrictlySortedBy val_cmp dict
  pub there : All (λ v. Contains dict v) (known_in value rows)

-- the dictionary of each COUNT_DISTINCT has the values of its column, where those dictionaries begin at a place
abbrev pub HasDistincts : List (List Val) → ℕ → List Agg → List (List Val) → Type 0
HasDistincts dicts place [] rows = Unit {0}
HasDistincts dicts place (agg ∷ aggs) rows = (IsTrue (has_dictionary (form_of_kind agg.kind)) → HasKnown (dict_at dicts place) (value_at agg.column) rows) × HasDistincts dicts (next_after agg.kind place) aggs rows

-- each value that counts is in its dictionary
pub record IsNumbered (aggs : List Agg) (dicts : List (List Val)) (dims : Mask) (rows : List (List Val)) : Type 0 where
  pub keys : All (λ column. HasValues (dict_at dicts column) (λ row. cell row column) rows) (dims_of dims)
  pub distincts : HasDistincts dicts (key_width aggs dicts) aggs rows

-- the meaning of a cuboid of rows is their aggregate by its dimensions
abbrev pub CuboidMeansRows : Type 0
CuboidMeansRows =
    (aggs : List Agg) (dicts flat : List (List Val)) (dims : Mask) (table : CellRows)
    → IsNumbered aggs dicts dims flat → IsCuboid aggs dicts flat dims table → meaning aggs dicts dims table.rows ≡ value_rows aggs dims flat
