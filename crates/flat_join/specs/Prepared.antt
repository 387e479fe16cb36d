-- The flat rows of a part of the fact table.
use Rattle.std.specs.Prelude.{◌≡◌, ◌<◌, List, ◌∷◌, length}
use Rattle.cube_desc.specs.Cube.{Cube}
use Rattle.cube_val.specs.declared.form.WideCol.{WideCol}
use Rattle.cube_val.specs.declared.val.Val.{Val}
use Rattle.range_list.specs.Ranges.{Interval}
use Rattle.flat_join.specs.Flat.{flat_of, without_derived}
use Rattle.flat_join.specs.Joins.{lookups_of}
use Rattle.flat_join.specs.Partners.{AreServed, Entries}

-- a cube, its tables and a range
pub record Joining : Type 0 where
  pub cube : Cube
  pub tables : List (List (List Val))
  pub range : Interval

-- the flat rows of fact rows, which are joined with the lookups
abbrev pub flat_rows_of : Joining → List (List Val) → List (List Val)
flat_rows_of j facts = flat_of j.cube (facts ∷ lookups_of j.tables) j.range

-- what stands ready for each fact row: the columns of the flat rows, and a snapshot of each lookup
pub record IsPrepared (j : Joining) (columns : List WideCol) (snaps : List Entries) : Type 0 where
  pub fact_table : 0 < length j.tables
  pub columns_are : columns ≡ without_derived j.cube j.cube.plan.wide
  pub count : length j.cube.plan.joins ≡ length snaps
  pub served : AreServed j.cube.plan.joins (lookups_of j.tables) snaps
