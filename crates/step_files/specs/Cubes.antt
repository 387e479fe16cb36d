-- What the step files of a cube are read by.
use Rattle.std.specs.Prelude.{ℕ, ◌+◌, Bool, true, false, ◌==◌, ◌&&◌, List, [], ◌∷◌, ◌++◌, Option, Some, None, filter, length, map, slice_get, slice_index_or}
use Rattle.std.specs.List.{flat_map, range_with_len}
use Rattle.cube_val.specs.declared.form.ColDesc.{ColDesc}
use Rattle.cube_val.specs.declared.form.WideCol.{WideCol}
use Rattle.cube_val.specs.declared.val.ColType.TheVariants as ty
use Rattle.cube_desc.specs.Cube.{Cube}
use Rattle.cube_desc.specs.FlatRow.{measured}
use Rattle.cube_desc.specs.Kept.{dict_places, kept_behind}
use Rattle.cube_desc.specs.Forms.{form_of}
use Rattle.cube_desc.specs.Meaning.{desc_of}
use Rattle.cube_desc.specs.declared.kept.Kept.{Kept}
use Rattle.measure_laws.specs.declared.measure.MeasureForm.{MeasureForm}
use Rattle.measure_laws.specs.declared.measure.MeasureForm.TheVariants as measure
use Rattle.step_fields.specs.declared.column.Column.{Column}
use Rattle.cube_fields.specs.declared.forms.Extremes.{Extremes}
use Rattle.step_codec.specs.Tables.{TableShape}
use Rattle.step_codec.specs.declared.layout.DictColumn.{DictColumn}
use Rattle.step_codec.specs.declared.layout.Layout.{Layout}

-- ---- tables and flat rows

abbrev pub columns_in : List ColDesc → List Bool → List Column
columns_in [] no_nulls = []
columns_in (col ∷ cols) [] = []
columns_in (col ∷ cols) (no_null ∷ no_nulls) = record { ty = col.ty; no_null = no_null } ∷ columns_in cols no_nulls

-- the table with a number
abbrev pub table_of : Cube → ℕ → TableShape
table_of c t = record { columns = columns_in (form_of c t).cols (form_of c t).no_null; key = (form_of c t).key }

unfoldable pub tables_of : Cube → List TableShape
tables_of c = map (table_of c) (range_with_len 0 (length c.tables))

abbrev pub no_table : TableShape
no_table = record { columns = []; key = [] }

abbrev pub no_column : Column
no_column = record { ty = ty.Int; no_null = false }

-- a column of one of the tables
abbrev pub column_at : List TableShape → WideCol → Column
column_at tables w = slice_index_or (slice_index_or tables w.table no_table).columns w.column no_column

-- the columns of a flat row: those of the rowkey, and those that measures are of
unfoldable pub flat_columns : Cube → List Column
flat_columns c = map (column_at (tables_of c)) c.rowkey ++ map (column_at (tables_of c)) (measured c)

-- ---- dictionaries

abbrev pub dict_column : List Column → ℕ → DictColumn
dict_column flat place = record { column = slice_index_or flat place no_column; place = place }

-- ---- measures

abbrev pub is_same : Option ℕ → Option ℕ → Bool
is_same (Some a) (Some b) = a == b
is_same (Some a) None = false
is_same None b = false

abbrev pub are_forms : MeasureForm → MeasureForm → Bool
are_forms measure.Min measure.Max = true
are_forms a b = false

-- the one is a least value, and the other the greatest one of the same column
abbrev pub are_extremes : Option Kept → Option Kept → Bool
are_extremes (Some a) (Some b) = are_forms a.form b.form && is_same a.column b.column
are_extremes (Some a) None = false
are_extremes None b = false

-- the places of the measures' cells, behind that of the count
abbrev pub extremes_at : ℕ → ℕ → Extremes
extremes_at i j = record { least = i + 1; greatest = j + 1 }

abbrev pub extremes_with : List Kept → ℕ → List Extremes
extremes_with measures i = map (extremes_at i) (filter (λ j. are_extremes (slice_get measures i) (slice_get measures j)) (range_with_len 0 (length measures)))

unfoldable pub extremes_of : List Kept → List Extremes
extremes_of measures = flat_map (extremes_with measures) (range_with_len 0 (length measures))

-- ---- the layout

unfoldable pub layout_of : Cube → Layout
layout_of c = record {
  tables = tables_of c;
  flat = flat_columns c;
  dicts = map (dict_column (flat_columns c)) (dict_places c);
  dims = length c.rowkey;
  measures = map (λ k. k.form) (kept_behind c);
  extremes = extremes_of (kept_behind c);
  masks = c.masks;
}

-- the layout of other bytes
abbrev pub no_layout : Layout
no_layout = record { tables = []; flat = []; dicts = []; dims = 0; measures = []; extremes = []; masks = [] }

abbrev pub layout_or : Option Cube → Layout
layout_or None = no_layout
layout_or (Some c) = layout_of c

-- the layout of the cube that bytes describe
unfoldable pub layout_in : List ℕ → Layout
layout_in bytes = layout_or (desc_of bytes)
