-- Tables and columns that aren't there.
use Rattle.std.specs.Prelude.{ℕ, zero, suc, List, [], ◌++◌, Option, Some, None, is_some, Bool, true, false, ◌||◌, bytes_eq}
use Rattle.std.specs.List.{flat_map, list_any}
use Rattle.cube_desc.specs.Cube.{Cube}
use Rattle.sql_reader.specs.declared.tree.Name.{Name}
use Rattle.sql_reader.specs.declared.tree.ColRef.{ColRef}
use Rattle.sql_reader.specs.declared.tree.Join.{Join}
use Rattle.sql_reader.specs.declared.tree.Query.{Query}
use Rattle.query_names.specs.Least.{unless}
use Rattle.query_names.specs.Parts.{place_of, of_columns}
use Rattle.query_names.specs.Resolve.{table_number, found}

abbrev pub is_fact : Option ℕ → Bool
is_fact None = false
is_fact (Some zero) = true
is_fact (Some (suc n)) = false

abbrev pub is_lookup : Option ℕ → Bool
is_lookup None = false
is_lookup (Some zero) = false
is_lookup (Some (suc n)) = true

-- FROM has to name the fact table, and a join a lookup
abbrev pub from_no_table : Cube → Query → List ℕ
from_no_table c q = unless (is_fact (table_number c q.table.text)) q.table.place

abbrev pub join_no_table : Cube → Join → List ℕ
join_no_table c j = unless (is_lookup (table_number c j.table.text)) j.table.place

-- a join names the table
abbrev pub is_joined : Query → List ℕ → Bool
is_joined q name = list_any (λ j. bytes_eq j.table.text name) q.joins

-- FROM or a join names the table
abbrev pub is_named : Query → List ℕ → Bool
is_named q name = bytes_eq q.table.text name || is_joined q name

abbrev pub named_no_table : Query → Option Name → List ℕ
named_no_table q None = []
named_no_table q (Some table) = unless (is_named q table.text) table.place

-- .. and a column's table has to be one of these
abbrev pub column_no_table : Query → ColRef → List ℕ
column_no_table q r = named_no_table q r.table

abbrev pub no_tables : Cube → Query → List ℕ
no_tables c q = from_no_table c q ++ flat_map (join_no_table c) q.joins ++ of_columns (column_no_table q) q

-- a column that isn't found
abbrev pub no_column : Cube → Query → ColRef → List ℕ
no_column c q r = unless (is_some (found c q r)) (place_of r)

abbrev pub no_columns : Cube → Query → List ℕ
no_columns c q = of_columns (no_column c q) q
