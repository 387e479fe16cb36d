-- Dimensions, and the rowkey that they need.
use Rattle.std.specs.Prelude.{ℕ, List, [], ◌++◌, Option, Some, None, Bool, true, ◌&&◌, not, nat_lt, bytes_eq, length}
use Rattle.std.specs.List.{flat_map, list_all, list_any, find}
use Rattle.descriptor_json.specs.Places.{JsonPointer}
use Rattle.descriptor_json.specs.declared.raw.RawName.{RawName}
use Rattle.descriptor_json.specs.declared.raw.RawLookup.{RawLookup}
use Rattle.descriptor_json.specs.declared.raw.RawNamed.{RawNamed}
use Rattle.descriptor_json.specs.declared.raw.RawNamed.TheVariants.{Column, Derived}
use Rattle.descriptor_json.specs.declared.raw.RawDimension.{RawDimension}
use Rattle.descriptor_json.specs.declared.raw.RawDesc.{RawDesc}
use Rattle.desc_checks.specs.Firsts.{unless}
use Rattle.desc_checks.specs.Names.{names_column}

-- derived columns are some columns of a lookup
abbrev pub is_derivable : RawDesc → RawName → RawNamed → Bool
is_derivable r table (Column t) = true
is_derivable r table (Derived ts) = not (bytes_eq table.text r.fact_table.text) && nat_lt 0 (length ts)

abbrev pub bad_dimension : RawDesc → RawDimension → List JsonPointer
bad_dimension r d = unless (is_derivable r d.table d.named) d.place

abbrev pub bad_dimensions : RawDesc → List JsonPointer
bad_dimensions r = flat_map (bad_dimension r) r.dimensions

abbrev pub the_foreign : Option RawLookup → List RawName
the_foreign None = []
the_foreign (Some l) = l.join.foreign

-- the fact table's columns with which the lookup of this name is joined
abbrev pub foreign_key : RawDesc → List ℕ → List RawName
foreign_key r name = the_foreign (find (λ l. bytes_eq l.table.text name) r.lookups.items)

abbrev pub in_rowkey : RawDesc → List ℕ → List ℕ → Bool
in_rowkey r table column = list_any (λ t. names_column t.text table column) r.rowkey.items

-- the rowkey has the column of a normal dimension, and for derived columns every foreign key column of their lookup
abbrev pub has_rowkey : RawDesc → RawName → RawNamed → Bool
has_rowkey r table (Column t) = in_rowkey r table.text t.text
has_rowkey r table (Derived ts) = list_all (λ f. in_rowkey r r.fact_table.text f.text) (foreign_key r table.text)

-- a text of the rowkey is one of these columns
abbrev pub needs : RawDesc → RawName → RawName → RawNamed → Bool
needs r text table (Column t) = names_column text.text table.text t.text
needs r text table (Derived ts) = list_any (λ f. names_column text.text r.fact_table.text f.text) (foreign_key r table.text)

abbrev pub dimension_bad_rowkey : RawDesc → RawDimension → List JsonPointer
dimension_bad_rowkey r d = unless (has_rowkey r d.table d.named) d.place

abbrev pub text_bad_rowkey : RawDesc → RawName → List JsonPointer
text_bad_rowkey r t = unless (list_any (λ d. needs r t d.table d.named) r.dimensions) t.place

abbrev pub bad_rowkey : RawDesc → List JsonPointer
bad_rowkey r = flat_map (dimension_bad_rowkey r) r.dimensions ++ flat_map (text_bad_rowkey r) r.rowkey.items
