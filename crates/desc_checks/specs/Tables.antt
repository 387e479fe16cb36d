-- Tables that are named, and those that aren't there.
use Rattle.std.specs.Prelude.{ℕ, List, [], ◌++◌, Option, Some, None, Bool, ◌&&◌, ◌||◌, bytes_eq}
use Rattle.std.specs.List.{flat_map, list_any, find}
use Rattle.descriptor_json.specs.Places.{JsonPointer}
use Rattle.descriptor_json.specs.declared.raw.RawName.{RawName}
use Rattle.descriptor_json.specs.declared.raw.RawColumn.{RawColumn}
use Rattle.descriptor_json.specs.declared.raw.RawTable.{RawTable}
use Rattle.descriptor_json.specs.declared.raw.RawLookup.{RawLookup}
use Rattle.descriptor_json.specs.declared.raw.RawDimension.{RawDimension}
use Rattle.descriptor_json.specs.declared.raw.RawDesc.{RawDesc}
use Rattle.desc_checks.specs.Firsts.{unless}
use Rattle.desc_checks.specs.Groups.{of_group}
use Rattle.desc_checks.specs.Names.{table_part}

-- there is a table with this name
abbrev pub has_table : RawDesc → List ℕ → Bool
has_table r name = list_any (λ t. bytes_eq t.name.text name) r.tables

-- it is the fact table or a lookup
abbrev pub is_joined : RawDesc → List ℕ → Bool
is_joined r name = bytes_eq r.fact_table.text name || list_any (λ l. bytes_eq l.table.text name) r.lookups.items

abbrev pub the_columns : Option RawTable → List RawColumn
the_columns None = []
the_columns (Some t) = t.columns.items

-- the columns of the table with this name
abbrev pub columns_of : RawDesc → List ℕ → List RawColumn
columns_of r name = the_columns (find (λ t. bytes_eq t.name.text name) r.tables)

abbrev pub fact_columns : RawDesc → List RawColumn
fact_columns r = columns_of r r.fact_table.text

-- the fact table and the lookups have to be among the tables
abbrev pub no_table : RawDesc → RawName → List JsonPointer
no_table r t = unless (has_table r t.text) t.place

abbrev pub lookup_no_table : RawDesc → RawLookup → List JsonPointer
lookup_no_table r l = no_table r l.table

-- .. and every other table has to be one of these too
abbrev pub dimension_no_table : RawDesc → RawDimension → List JsonPointer
dimension_no_table r d = unless (has_table r d.table.text && is_joined r d.table.text) d.table.place

abbrev pub text_no_table : RawDesc → RawName → List JsonPointer
text_no_table r t = unless (has_table r (table_part t.text) && is_joined r (table_part t.text)) t.place

abbrev pub no_tables : RawDesc → List JsonPointer
no_tables r =
    no_table r r.fact_table
    ++ flat_map (lookup_no_table r) r.lookups.items
    ++ flat_map (dimension_no_table r) r.dimensions
    ++ flat_map (text_no_table r) r.rowkey.items
    ++ flat_map (of_group (text_no_table r)) r.groups.items
