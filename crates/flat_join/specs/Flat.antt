-- The flat rows of a cube: its joined rows without the derived columns.
use Rattle.std.specs.Prelude.{◌≡◌, ◌<◌, ◌+◌, ◌++◌, ℕ, List, [], drop, length, map, slice_index_or, take}
use Rattle.range_list.specs.Ranges.{Interval}
use Rattle.cube_val.specs.declared.val.Val.{Val}
use Rattle.cube_desc.specs.Cube.{Cube}
use Rattle.cube_desc.specs.Forms.{form_of}
use Rattle.flat_join.specs.Fits.{IsTable}
use Rattle.flat_join.specs.Joins.{joined}

-- a table for each table of the cube, in their order, each of its form
pub record AreTablesOf (c : Cube) (tables : List (List (List Val))) : Type 0 where
  pub count : length tables ≡ length c.tables
  pub each : (t : ℕ) → t < length tables → IsTable (form_of c t) (slice_index_or tables t [])

-- of what stands in the order of the wide columns that of the rowkey and of the measure columns: the derived columns stand between them
abbrev pub without_derived : {X : Type 0} → Cube → List X → List X
without_derived c xs = take (length c.rowkey) xs ++ drop (length c.rowkey + length c.derived) xs

-- the flat rows of a cube's tables and a range
abbrev pub flat_of : Cube → List (List (List Val)) → Interval → List (List Val)
flat_of c tables range = map (without_derived c) (joined c.plan tables range)
