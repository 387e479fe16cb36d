-- The rowkey columns that a cuboid needs for a query.
use Rattle.std.specs.Prelude.{ℕ, List, [], ◌∷◌, ◌++◌, map, Option, Some, None, unwrap_or, if◌then◌else◌, nat_lt, ◌-◌, length, slice_get}
use Rattle.std.specs.List.{flat_map, position}
use Rattle.cube_desc.specs.Cube.{Cube}
use Rattle.cube_desc.specs.Resolve.{wide_fact}
use Rattle.cube_desc.specs.Sound.{foreign_of}
use Rattle.cube_desc.specs.declared.desc.DerivedDesc.{DerivedDesc}
use Rattle.sql_reader.specs.declared.tree.ColRef.{ColRef}
use Rattle.sql_reader.specs.declared.tree.Query.{Query}
use Rattle.query_names.specs.Parts.{of_cond, of_term}
use Rattle.query_names.specs.Resolve.{same_column}
use Rattle.query_bind.specs.Asks.{column_number}

-- the place of a fact table's column in the rowkey
abbrev pub rowkey_place : Cube → ℕ → ℕ
rowkey_place c column = unwrap_or (position (λ own. same_column own (wide_fact column)) c.rowkey) 0

abbrev pub derived_bits : Cube → Option DerivedDesc → List ℕ
derived_bits c None = []
derived_bits c (Some d) = map (rowkey_place c) (foreign_of (slice_get c.plan.joins d.lookup))

-- a rowkey column needs its own bit, and a derived column the bits of its foreign key
abbrev pub bits_of : Cube → ℕ → List ℕ
bits_of c place = if nat_lt place (length c.rowkey) then place ∷ [] else derived_bits c (slice_get c.derived (place - length c.rowkey))

abbrev pub column_bits : Cube → Query → ColRef → List ℕ
column_bits c q r = bits_of c (column_number c q r)

-- the bits of the columns that are used: in WHERE and in GROUP BY
abbrev pub needed_bits : Cube → Query → List ℕ
needed_bits c q = of_cond (of_term (column_bits c q)) q.filter ++ flat_map (column_bits c q) q.group
