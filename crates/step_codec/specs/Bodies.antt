-- What stands in tasks and products: tables, flat rows, dictionaries and layers.
use Rattle.std.specs.Prelude.{◌≡◌, ◌≤◌, ◌<◌, ◌^◌, ℕ, Bool, true, false, List, [], ◌∷◌, ◌++◌, if◌then◌else◌}
use Rattle.std.specs.Int.{w32, to_be_bytes}
use Rattle.std.specs.List.{flat_map, list_all, list_any}
use Rattle.std.specs.Ordering.{eq_by_cmp}
use Rattle.byte_frame.specs.Spelling.{EachFits, list_text}
use Rattle.cell_store.specs.Cells.{CellRows}
use Rattle.cube_val.specs.declared.val.Val.{Val}
use Rattle.cube_val.specs.Order.{val_cmp}
use Rattle.step_fields.specs.Fits.{FitsRows}
use Rattle.step_fields.specs.Spelling.{rows_text}
use Rattle.table_reader.specs.Keys.{HasDistinctKeys, val_at}
use Rattle.cube_fields.specs.Cells.{FitsTables, id_text, tables_text}
use Rattle.cube_fields.specs.Dicts.{FitsDicts}
use Rattle.step_codec.specs.Layouts.{dict_forms, parent_masks, row_limit, size_limit, table_form}
use Rattle.step_codec.specs.declared.layout.DictColumn.{DictColumn}
use Rattle.step_codec.specs.declared.layout.Layout.{Layout}
use Rattle.step_codec.specs.Tables.{TableShape}

-- ---- tables

-- rows of the table's columns, at most 200,000, of which none repeats the primary key of an earlier one
abbrev pub FitsLoaded : TableShape → List (List Val) → Type 0
FitsLoaded t rows = FitsRows t.columns row_limit rows × HasDistinctKeys t.key rows

-- the rows of each table, one list after the other
abbrev pub loaded_text : List (List (List Val)) → List ℕ
loaded_text tables = flat_map rows_text tables

abbrev pub FitsAllLoaded : Layout → List (List (List Val)) → Type 0
FitsAllLoaded l tables = EachFits FitsLoaded l.tables tables

-- ---- dictionaries of flat rows

abbrev pub is_in : List Val → Val → Bool
is_in dict v = list_any (eq_by_cmp val_cmp v) dict

-- the row's value at each column's place is in the column's dictionary
abbrev pub holds : List DictColumn → List (List Val) → List Val → Bool
holds [] dicts row = true
holds (d ∷ columns) [] row = true
holds (d ∷ columns) (dict ∷ dicts) row = if is_in dict (val_at row d.place) then holds columns dicts row else false

-- and so it is for all rows
abbrev pub hold_all : Layout → List (List Val) → List (List Val) → Bool
hold_all l rows dicts = list_all (holds l.dicts dicts) rows

-- dictionaries of at most so many values that hold all values of the rows
abbrev pub FitsHolding : Layout → ℕ → List (List Val) → List (List Val) → Type 0
FitsHolding l limit rows dicts = FitsDicts (dict_forms l limit) dicts × (hold_all l rows dicts ≡ true)

-- ---- layers

-- the size of each dictionary
abbrev pub FitsSizes : Layout → List ℕ → Type 0
FitsSizes l sizes = EachFits (λ (d : DictColumn) size. (size ≤ size_limit) × (size < 2 ^ 32)) l.dicts sizes

abbrev pub sizes_text : List ℕ → List ℕ
sizes_text sizes = list_text id_text sizes

-- how many dimensions the cuboids have, the sizes of the dictionaries, and the parents' tables
abbrev pub layer_text : ℕ × (List ℕ × List CellRows) → List ℕ
layer_text p = to_be_bytes w32 p.0 ++ (sizes_text p.1.0 ++ tables_text p.1.1)

abbrev pub FitsLayer : Layout → ℕ × (List ℕ × List CellRows) → Type 0
FitsLayer l p = (p.0 < 2 ^ 32) × (FitsSizes l p.1.0 × FitsTables (table_form l p.1.0 1) (parent_masks l.masks p.0) p.1.1)
