-- Names, and the places of texts that aren't names.
use Rattle.std.specs.Prelude.{ℕ, ◌+◌, List, ◌++◌, Bool, ◌&&◌, ◌||◌, ◌==◌, nat_le, nat_lt, bytes_eq, length, slice_index, drop, take}
use Rattle.std.specs.List.{flat_map, list_all, position_or_len}
use Rattle.descriptor_json.specs.Places.{JsonPointer}
use Rattle.descriptor_json.specs.declared.raw.RawName.{RawName}
use Rattle.descriptor_json.specs.declared.raw.RawColumn.{RawColumn}
use Rattle.descriptor_json.specs.declared.raw.RawTable.{RawTable}
use Rattle.descriptor_json.specs.declared.raw.RawLookup.{RawLookup}
use Rattle.descriptor_json.specs.declared.raw.RawNamed.{RawNamed}
use Rattle.descriptor_json.specs.declared.raw.RawNamed.TheVariants.{Column, Derived}
use Rattle.descriptor_json.specs.declared.raw.RawDimension.{RawDimension}
use Rattle.descriptor_json.specs.declared.raw.RawMeasure.{RawMeasure}
use Rattle.descriptor_json.specs.declared.raw.RawDesc.{RawDesc}
use Rattle.desc_checks.specs.Firsts.{unless}
use Rattle.desc_checks.specs.Groups.{of_group}

-- A to Z, or an underscore
abbrev pub is_letter : ℕ → Bool
is_letter b = (nat_le 65 b && nat_le b 90) || (b == 95)

-- .. or a digit
abbrev pub is_name_byte : ℕ → Bool
is_name_byte b = is_letter b || (nat_le 48 b && nat_le b 57)

-- a text in upper case is a name: 1 to 64 bytes, a letter first
unfoldable pub is_name : List ℕ → Bool
is_name s = nat_lt 0 (length s) && nat_le (length s) 64 && is_letter (slice_index s 0) && list_all is_name_byte s

-- the parts of `TABLE.COLUMN`: what stands before and after the first point
unfoldable pub table_part : List ℕ → List ℕ
table_part s = take (position_or_len (λ b. b == 46) s) s

unfoldable pub column_part : List ℕ → List ℕ
column_part s = drop (position_or_len (λ b. b == 46) s + 1) s

-- two names and a point
abbrev pub is_full_name : List ℕ → Bool
is_full_name s = is_name (table_part s) && is_name (column_part s)

-- the text names this column of this table
abbrev pub names_column : List ℕ → List ℕ → List ℕ → Bool
names_column s table column = bytes_eq (table_part s) table && bytes_eq (column_part s) column

abbrev pub bad_name : RawName → List JsonPointer
bad_name t = unless (is_name t.text) t.place

abbrev pub bad_full_name : RawName → List JsonPointer
bad_full_name t = unless (is_full_name t.text) t.place

abbrev pub column_bad_names : RawColumn → List JsonPointer
column_bad_names c = bad_name c.name

abbrev pub table_bad_names : RawTable → List JsonPointer
table_bad_names t = bad_name t.name ++ flat_map column_bad_names t.columns.items

abbrev pub lookup_bad_names : RawLookup → List JsonPointer
lookup_bad_names l = bad_name l.table ++ flat_map bad_name l.join.primary ++ flat_map bad_name l.join.foreign

abbrev pub named_bad_names : RawNamed → List JsonPointer
named_bad_names (Column t) = bad_name t
named_bad_names (Derived ts) = flat_map bad_name ts

abbrev pub dimension_bad_names : RawDimension → List JsonPointer
dimension_bad_names d = bad_name d.table ++ named_bad_names d.named

abbrev pub measure_bad_names : RawMeasure → List JsonPointer
measure_bad_names m = bad_name m.name

-- of the cube, its tables and its lookups
abbrev pub bad_names_of_tables : RawDesc → List JsonPointer
bad_names_of_tables r = bad_name r.name ++ flat_map table_bad_names r.tables ++ bad_name r.fact_table ++ flat_map lookup_bad_names r.lookups.items

-- of what it counts by and what it measures
abbrev pub bad_names_of_columns : RawDesc → List JsonPointer
bad_names_of_columns r = bad_name r.partition ++ flat_map dimension_bad_names r.dimensions ++ flat_map measure_bad_names r.measures.items ++ flat_map bad_full_name r.rowkey.items

abbrev pub bad_names : RawDesc → List JsonPointer
bad_names r = bad_names_of_tables r ++ bad_names_of_columns r ++ flat_map (of_group bad_full_name) r.groups.items
