-- Names that come twice. The place is that of the later entry; of a derived column it is that of its text.
use Rattle.std.specs.Prelude.{ℕ, List, [], ◌∷◌, ◌++◌, Bool, map}
use Rattle.std.specs.List.{flat_map}
use Rattle.descriptor_json.specs.Places.{JsonPointer}
use Rattle.descriptor_json.specs.declared.raw.RawName.{RawName}
use Rattle.descriptor_json.specs.declared.raw.RawColumn.{RawColumn}
use Rattle.descriptor_json.specs.declared.raw.RawTable.{RawTable}
use Rattle.descriptor_json.specs.declared.raw.RawLookup.{RawLookup}
use Rattle.descriptor_json.specs.declared.raw.RawNamed.{RawNamed}
use Rattle.descriptor_json.specs.declared.raw.RawNamed.TheVariants.{Column, Derived}
use Rattle.descriptor_json.specs.declared.raw.RawDimension.{RawDimension}
use Rattle.descriptor_json.specs.declared.raw.RawMeasure.{RawMeasure}
use Rattle.descriptor_json.specs.declared.raw.RawDesc.{RawDesc}
use Rattle.desc_checks.specs.Firsts.{unless, along}

abbrev pub column_name : RawColumn → List ℕ
column_name c = c.name.text

abbrev pub column_twice : Bool → RawColumn → List JsonPointer
column_twice is_new c = unless is_new c.place

abbrev pub table_name : RawTable → List ℕ
table_name t = t.name.text

-- a table whose name is new or not, and its columns
abbrev pub table_twice : Bool → RawTable → List JsonPointer
table_twice is_new t = unless is_new t.place ++ along column_name column_twice [] t.columns.items

abbrev pub lookup_name : RawLookup → List ℕ
lookup_name l = l.table.text

abbrev pub lookup_twice : Bool → RawLookup → List JsonPointer
lookup_twice is_new l = unless is_new l.place

abbrev pub text_of : RawName → List ℕ
text_of t = t.text

abbrev pub text_twice : Bool → RawName → List JsonPointer
text_twice is_new t = unless is_new t.place

-- a column with its table, as the rowkey writes it
abbrev pub in_table : RawName → RawName → JsonPointer → RawName
in_table table t p = record { text = table.text ++ 46 ∷ t.text; place = p }

abbrev pub named_columns : RawName → JsonPointer → RawNamed → List RawName
named_columns table p (Column t) = in_table table t p ∷ []
named_columns table p (Derived ts) = map (λ t. in_table table t t.place) ts

-- the columns of a dimension, each with the place at which it would come twice
abbrev pub dimension_columns : RawDimension → List RawName
dimension_columns d = named_columns d.table d.place d.named

abbrev pub measure_name : RawMeasure → List ℕ
measure_name m = m.name.text

abbrev pub measure_twice : Bool → RawMeasure → List JsonPointer
measure_twice is_new m = unless is_new m.place

-- the fact table is as if before the lookups
abbrev pub tables_twice : RawDesc → List JsonPointer
tables_twice r = along table_name table_twice [] r.tables ++ along lookup_name lookup_twice (r.fact_table.text ∷ []) r.lookups.items

abbrev pub dimensions_twice : RawDesc → List JsonPointer
dimensions_twice r = along text_of text_twice [] (flat_map dimension_columns r.dimensions)

abbrev pub measures_twice : RawDesc → List JsonPointer
measures_twice r = along measure_name measure_twice [] r.measures.items ++ along text_of text_twice [] r.rowkey.items

abbrev pub twice : RawDesc → List JsonPointer
twice r = tables_twice r ++ dimensions_twice r ++ measures_twice r
