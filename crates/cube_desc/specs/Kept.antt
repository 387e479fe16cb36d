-- The measures that a cube's cuboids keep, and the columns that have a dictionary.
use Rattle.std.specs.Prelude.{ℕ, ◌++◌, not, List, ◌∷◌, Option, Some, None, filter, if◌then◌else◌, length, map}
use Rattle.std.specs.List.{filter_map, range_with_len}
use Rattle.cube_val.specs.declared.form.WideCol.{WideCol}
use Rattle.measure_laws.specs.declared.measure.MeasureForm.TheVariants as form
use Rattle.measure_laws.specs.Kinds.{counts_rows, has_dictionary}
use Rattle.cube_desc.specs.Cube.{Cube}
use Rattle.cube_desc.specs.FlatRow.{measured, place_of}
use Rattle.cube_desc.specs.declared.desc.MeasureDesc.{MeasureDesc}
use Rattle.cube_desc.specs.declared.kept.Kept.{Kept}

-- the count of rows
abbrev pub row_count : Kept
row_count = record { form = form.Count; column = None }

-- the count of the values of a fact table's column that aren't null
abbrev pub known_count : WideCol → Kept
known_count w = record { form = form.Known; column = Some w.column }

abbrev pub kept_of : MeasureDesc → Kept
kept_of m = record { form = m.form; column = m.column }

-- the measures that a descriptor names, but for counts of rows
abbrev pub own_measures : List MeasureDesc → List Kept
own_measures measures = map kept_of (filter (λ m. not (counts_rows m.form)) measures)

-- what is kept behind the count of rows: of each column that a measure is of, once, the count of known values, and then the others
unfoldable pub kept_behind : Cube → List Kept
kept_behind c = map known_count (measured c) ++ own_measures c.measures

abbrev pub kept_measures : Cube → List Kept
kept_measures c = row_count ∷ kept_behind c

-- ---- dictionaries

-- the place of the column whose different values a measure keeps
abbrev pub dict_place : Cube → Kept → Option ℕ
dict_place c k = if has_dictionary k.form then Some (place_of c k.column) else None

-- the places of the columns whose different values are kept
unfoldable pub distinct_places : Cube → List ℕ
distinct_places c = filter_map (dict_place c) (kept_behind c)

-- the places of the columns that have a dictionary: those of the rowkey, and then one for each measure of different values
abbrev pub dict_places : Cube → List ℕ
dict_places c = range_with_len 0 (length c.rowkey) ++ distinct_places c
