-- What the names of a query stand for in a cube.
use Rattle.std.specs.Prelude.{ℕ, List, Option, Some, None, is_some, Bool, ◌&&◌, ◌==◌, ◌+◌, if◌then◌else◌, nat_lt, bytes_eq, length, slice_get}
use Rattle.std.specs.List.{find, position}
use Rattle.std.specs.Option.{option_or}
use Rattle.cube_val.specs.declared.val.ColType.{ColType}
use Rattle.cube_val.specs.declared.val.ColType.TheVariants as ty
use Rattle.cube_val.specs.declared.form.ColDesc.{ColDesc}
use Rattle.cube_val.specs.declared.form.WideCol.{WideCol}
use Rattle.cube_desc.specs.Cube.{Cube}
use Rattle.cube_desc.specs.Forms.{cols_of}
use Rattle.sql_reader.specs.declared.tree.Name.{Name}
use Rattle.sql_reader.specs.declared.tree.ColRef.{ColRef}
use Rattle.sql_reader.specs.declared.tree.Join.{Join}
use Rattle.sql_reader.specs.declared.tree.Query.{Query}

-- ---- tables and columns

-- the number of the table with this name: 0 for the fact table, 1 for the first lookup
abbrev pub table_number : Cube → List ℕ → Option ℕ
table_number c name = position (λ t. bytes_eq t.name name) c.tables

abbrev pub columns_at : Cube → ℕ → List ColDesc
columns_at c table = cols_of (slice_get c.tables table)

abbrev pub column_at : ℕ → Option ℕ → Option WideCol
column_at table None = None
column_at table (Some column) = Some (record { table = table; column = column })

abbrev pub column_in_table : Cube → List ℕ → Option ℕ → Option WideCol
column_in_table c name None = None
column_in_table c name (Some table) = column_at table (position (λ col. bytes_eq col.name name) (columns_at c table))

-- the column with this name in the table with that name
abbrev pub column_in : Cube → List ℕ → List ℕ → Option WideCol
column_in c name table = column_in_table c name (table_number c table)

abbrev pub column_in_join : Cube → List ℕ → Option Join → Option WideCol
column_in_join c name None = None
column_in_join c name (Some j) = column_in c name j.table.text

-- the first joined table that has a column with this name
abbrev pub join_with : Cube → Query → List ℕ → Option Join
join_with c q name = find (λ j. is_some (column_in c name j.table.text)) q.joins

abbrev pub found_from : Cube → Query → Name → Option Name → Option WideCol
found_from c q column None = option_or (column_in c column.text q.table.text) (column_in_join c column.text (join_with c q column.text))
found_from c q column (Some table) = column_in c column.text table.text

-- the column that is named: with a table the one of that table; a bare one that of the first table, in the order of FROM and the joins, that
-- has it
abbrev pub found : Cube → Query → ColRef → Option WideCol
found c q r = found_from c q r.column r.table

-- ---- types

abbrev pub type_from : Option ColDesc → ColType
type_from None = ty.Int
type_from (Some col) = col.ty

abbrev pub type_at : Cube → WideCol → ColType
type_at c w = type_from (slice_get (columns_at c w.table) w.column)

abbrev pub type_found : Cube → Option WideCol → ColType
type_found c None = ty.Int
type_found c (Some w) = type_at c w

-- the type of the column that is named
abbrev pub column_type : Cube → Query → ColRef → ColType
column_type c q r = type_found c (found c q r)

-- ---- columns of joined rows

abbrev pub same_column : WideCol → WideCol → Bool
same_column a b = (a.table == b.table) && (a.column == b.column)

-- the first columns of a joined row are those of the rowkey and the derived ones
abbrev pub dimension_count : Cube → ℕ
dimension_count c = length c.rowkey + length c.derived

abbrev pub below : ℕ → Option ℕ → Option ℕ
below count None = None
below count (Some i) = if nat_lt i count then Some i else None

-- the place of a column among the rowkey and derived columns of a joined row
abbrev pub dimension_at : Cube → Option WideCol → Option ℕ
dimension_at c None = None
dimension_at c (Some w) = below (dimension_count c) (position (λ own. same_column own w) c.plan.wide)

-- the place of the column that is named among the rowkey and derived columns of a joined row
abbrev pub dimension_of : Cube → Query → ColRef → Option ℕ
dimension_of c q r = dimension_at c (found c q r)
