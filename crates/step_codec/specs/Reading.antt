-- Readers of what stands in tasks and products.
use Rattle.std.specs.Prelude.{ℕ, Bool, not, ◌&&◌, nat_le, nat_lt, List, [], Option, length, take, slice_index_or}
use Rattle.std.specs.Int.{w32}
use Rattle.std.specs.List.{list_any, range_with_len}
use Rattle.std.specs.Ordering.{is_eq}
use Rattle.byte_frame.specs.Reading.{counted_at, each_at, if_at, number_at, then_at}
use Rattle.cell_store.specs.Cells.{CellRows}
use Rattle.cube_val.specs.declared.val.Val.{Val}
use Rattle.cube_val.specs.Order.{row_cmp}
use Rattle.step_fields.specs.Reading.{rows_at}
use Rattle.table_reader.specs.Keys.{has_null, key_of}
use Rattle.cube_fields.specs.Reading.{dicts_at, tables_at}
use Rattle.step_codec.specs.Bodies.{hold_all}
use Rattle.step_codec.specs.Layouts.{dict_forms, parent_masks, row_limit, size_limit, table_form}
use Rattle.step_codec.specs.declared.layout.DictColumn.{DictColumn}
use Rattle.step_codec.specs.declared.layout.Layout.{Layout}
use Rattle.step_codec.specs.Tables.{TableShape}

-- ---- tables

-- the row's key has no null and is that of an earlier row
abbrev pub is_repeat : List ℕ → List (List Val) → ℕ → Bool
is_repeat places rows i =
    not (has_null (key_of places (slice_index_or rows i [])))
    && list_any (λ earlier. is_eq (row_cmp (key_of places earlier) (key_of places (slice_index_or rows i [])))) (take i rows)

-- there is a key, and a row that repeats one
abbrev pub has_repeat : List ℕ → List (List Val) → Bool
has_repeat places rows = nat_lt 0 (length places) && list_any (is_repeat places rows) (range_with_len 0 (length rows))

abbrev pub loaded_at : TableShape → List ℕ → Option (List (List Val) × List ℕ)
loaded_at t = if_at (λ rows. not (has_repeat t.key rows)) (rows_at t.columns row_limit)

abbrev pub all_loaded_at : Layout → List ℕ → Option (List (List (List Val)) × List ℕ)
all_loaded_at l = each_at loaded_at l.tables

-- ---- dictionaries of flat rows

abbrev pub holding_at : Layout → ℕ → List (List Val) → List ℕ → Option (List (List Val) × List ℕ)
holding_at l limit rows = if_at (hold_all l rows) (dicts_at (dict_forms l limit))

-- ---- layers

abbrev pub size_at : List ℕ → Option (ℕ × List ℕ)
size_at = if_at (λ size. nat_le size size_limit) (number_at w32)

abbrev pub sizes_at : Layout → List ℕ → Option (List ℕ × List ℕ)
sizes_at l = counted_at (λ (d : DictColumn). size_at) l.dicts

unfoldable pub layer_at : Layout → List ℕ → Option ((ℕ × (List ℕ × List CellRows)) × List ℕ)
layer_at l = then_at (number_at w32) (λ dims. then_at (sizes_at l) (λ sizes. tables_at (table_form l sizes 1) (parent_masks l.masks dims)))
