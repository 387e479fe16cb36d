-- What each step of a job makes of a cube and of what it works on. The flat step makes the flat rows (`flat_of` of `flat_join`), and the seal step
-- gives its own list again.
use Rattle.std.specs.Prelude.{ℕ, ◌==◌, ◌&&◌, ◌++◌, Bool, IsTrue, List, [], Some, filter, is_some, length, map, slice_index_or, unwrap_or}
use Rattle.std.specs.List.{list_all, list_any, position_or_len, range_with_len}
use Rattle.agg_group.specs.declared.mask.Mask.{Mask}
use Rattle.agg_group.specs.Mask.{mask_at}
use Rattle.cell_gather.specs.Gathers.{gathered}
use Rattle.cell_gather.specs.Keys.{part_of}
use Rattle.cell_store.specs.Cells.{CellRows}
use Rattle.cube_desc.specs.Cube.{Cube}
use Rattle.cube_val.specs.declared.val.Val.{Val}
use Rattle.cuboid_tree.specs.Tree.{is_of_layer, parent_of, places}
use Rattle.dim_dictionary.specs.Dictionaries.{dictionary_of}
use Rattle.layer_builder.specs.Base.{base_mask, base_rows, key_width}
use Rattle.plain_answer.specs.Kinds.{form_of_kind}
use Rattle.plain_answer.specs.Aggregates.{cell, known_values}
use Rattle.cube_desc.specs.Kept.{distinct_places}
use Rattle.step_compute.specs.Columns.{kept_aggs}

-- ---- dictionaries

-- the values of a column of rows
abbrev pub values_in : List (List Val) → ℕ → List Val
values_in rows place = map (λ row. cell row place) rows

-- .. those that aren't null
abbrev pub known_in : List (List Val) → ℕ → List Val
known_in rows place = known_values (Some place) rows

-- the sorted distinct values of each rowkey column, null among them, and then of each column whose different values are counted,
-- without null
abbrev pub dict_value : Cube → List (List Val) → List (List Val)
dict_value c flat =
    map (λ place. dictionary_of (values_in flat place)) (range_with_len 0 (length c.rowkey)) ++ map (λ place. dictionary_of (known_in flat place)) (distinct_places c)

-- ---- the base cuboid

-- the aggregate of flat rows by all rowkey columns, in dictionary numbers
abbrev pub base_value : Cube → List (List Val) → List (List Val) → CellRows
base_value c flat dicts = record {
  mask = base_mask (key_width (kept_aggs c) dicts);
  forms = map (λ agg. form_of_kind agg.kind) (kept_aggs c);
  rows = base_rows (kept_aggs c) dicts flat;
}

-- ---- the other cuboids, by the number of their dimensions

-- the place is that of a cuboid with so many dimensions that isn't the base
abbrev pub is_in_layer : List Mask → ℕ → ℕ → Bool
is_in_layer masks dims i = is_of_layer masks dims i && is_some (parent_of masks i)

abbrev pub layer_places : List Mask → ℕ → List ℕ
layer_places masks dims = filter (is_in_layer masks dims) (places masks)

-- the mask of the parent
abbrev pub parent_mask : List Mask → ℕ → Mask
parent_mask masks i = mask_at masks (unwrap_or (parent_of masks i) 0)

abbrev pub no_table : CellRows
no_table = record { mask = record { 0 = 0 }; forms = []; rows = [] }

abbrev pub has_mask : Mask → CellRows → Bool
has_mask mask table = table.mask.0 == mask.0

-- the table of a cuboid among tables
abbrev pub table_with : List CellRows → Mask → CellRows
table_with tables mask = slice_index_or tables (position_or_len (has_mask mask) tables) no_table

-- a table's rows gathered by some of its dimensions
abbrev pub regrouped : CellRows → Mask → CellRows
regrouped parent mask = record { mask = mask; forms = parent.forms; rows = gathered parent.forms (part_of parent.mask mask) parent.rows }

-- each cuboid with so many dimensions but the base, rising by mask, gathered from its parent's table alone
abbrev pub layer_value : List Mask → ℕ → List CellRows → List CellRows
layer_value masks dims parents = map (λ i. regrouped (table_with parents (parent_mask masks i)) (mask_at masks i)) (layer_places masks dims)

-- the tables of their parents are there
abbrev pub HasParents : List Mask → ℕ → List CellRows → Type 0
HasParents masks dims parents = IsTrue (list_all (λ i. list_any (has_mask (parent_mask masks i)) parents) (layer_places masks dims))
