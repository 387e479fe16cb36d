-- Columns that are named, and those that their table hasn't.
use Rattle.std.specs.Prelude.{ℕ, List, ◌++◌, codes, Bool, ◌||◌, not, bytes_eq}
use Rattle.std.specs.List.{flat_map, list_any}
use Rattle.descriptor_json.specs.Places.{JsonPointer}
use Rattle.descriptor_json.specs.declared.raw.RawName.{RawName}
use Rattle.descriptor_json.specs.declared.raw.RawColumn.{RawColumn}
use Rattle.descriptor_json.specs.declared.raw.RawLookup.{RawLookup}
use Rattle.descriptor_json.specs.declared.raw.RawNamed.{RawNamed}
use Rattle.descriptor_json.specs.declared.raw.RawNamed.TheVariants.{Column, Derived}
use Rattle.descriptor_json.specs.declared.raw.RawDimension.{RawDimension}
use Rattle.descriptor_json.specs.declared.raw.RawMeasure.{RawMeasure}
use Rattle.descriptor_json.specs.declared.raw.RawDesc.{RawDesc}
use Rattle.desc_checks.specs.Firsts.{unless}
use Rattle.desc_checks.specs.Groups.{of_group}
use Rattle.desc_checks.specs.Names.{table_part, column_part}
use Rattle.desc_checks.specs.Tables.{columns_of, fact_columns}

abbrev pub has_column : List RawColumn → List ℕ → Bool
has_column cs name = list_any (λ c. bytes_eq c.name.text name) cs

abbrev pub no_column : List RawColumn → RawName → List JsonPointer
no_column cs t = unless (has_column cs t.text) t.place

-- a primary key's columns are sought in the lookup, a foreign key's in the fact table
abbrev pub lookup_no_column : RawDesc → RawLookup → List JsonPointer
lookup_no_column r l = flat_map (no_column (columns_of r l.table.text)) l.join.primary ++ flat_map (no_column (fact_columns r)) l.join.foreign

abbrev pub named_no_column : List RawColumn → RawNamed → List JsonPointer
named_no_column cs (Column t) = no_column cs t
named_no_column cs (Derived ts) = flat_map (no_column cs) ts

abbrev pub dimension_no_column : RawDesc → RawDimension → List JsonPointer
dimension_no_column r d = named_no_column (columns_of r d.table.text) d.named

-- a measure names a column exactly where its parameter's type is `column`; it is sought in the fact table
abbrev pub takes_column : RawMeasure → Bool
takes_column m = bytes_eq m.function.parameter.kind.text (codes "column")

abbrev pub measure_no_column : RawDesc → RawMeasure → List JsonPointer
measure_no_column r m = unless (not (takes_column m) || has_column (fact_columns r) m.function.parameter.value.text) m.function.parameter.value.place

abbrev pub text_no_column : RawDesc → RawName → List JsonPointer
text_no_column r t = unless (has_column (columns_of r (table_part t.text)) (column_part t.text)) t.place

abbrev pub no_columns : RawDesc → List JsonPointer
no_columns r =
    flat_map (lookup_no_column r) r.lookups.items
    ++ no_column (fact_columns r) r.partition
    ++ flat_map (dimension_no_column r) r.dimensions
    ++ flat_map (measure_no_column r) r.measures.items
    ++ flat_map (text_no_column r) r.rowkey.items
    ++ flat_map (of_group (text_no_column r)) r.groups.items
