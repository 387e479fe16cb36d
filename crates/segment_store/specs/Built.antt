-- Segments that are built for a cube.
use Rattle.std.specs.Prelude.{◌≡◌, ◌≢◌, ◌≤◌, ℕ, true, Some, All, length, map, slice_get}
use Rattle.std.specs.List.{AllZip}
use Rattle.cube_desc.specs.Cube.{Cube}
use Rattle.cube_desc.specs.Forms.{no_null_at}
use Rattle.cube_desc.specs.Sound.{columns_at, type_at}
use Rattle.cube_val.specs.Limits.{row_limit}
use Rattle.cube_val.specs.Values.{FitsType}
use Rattle.cube_val.specs.declared.form.WideCol.{WideCol}
use Rattle.cube_val.specs.declared.val.ColType.{ColType}
use Rattle.cube_val.specs.declared.val.Val.{Val}
use Rattle.cube_val.specs.declared.val.Val.TheVariants.{Null}
use Rattle.flat_join.specs.Flat.{AreTablesOf}
use Rattle.segment_store.specs.Kept.{kept_of}
use Rattle.segment_store.specs.Segments.{dictionary_columns, plan_of, width_of}
use Rattle.segment_store.specs.Sources.{Source}
use Rattle.segment_store.specs.declared.parts.SegmentParts.{SegmentParts}

-- a value that may stand in a column of joined rows: of the type of the column, and no null where the column has none
abbrev pub FitsWide : Cube → ℕ → Val → Type 0
FitsWide c place v =
    (w : WideCol) (t : ColType) → slice_get c.plan.wide place ≡ Some w → type_at (columns_at c.tables w.table) w.column ≡ Some t
    → FitsType t v × (no_null_at c w.table w.column ≡ true → v ≢ Null)

-- the tables of a source are the cube's, of no more rows than a table may have
pub record IsSourceOf (c : Cube) (s : Source) : Type 0 where
  pub tables : AreTablesOf c s.tables
  pub few : All (λ rows. length rows ≤ row_limit) s.tables

-- plan, aggregates and cuboids are the cube's, and so are the tables of the sources and the values of the dictionaries
pub record IsBuiltFor (c : Cube) (s : SegmentParts) : Type 0 where
  pub plan : plan_of s ≡ c.plan
  pub width : width_of s ≡ length c.rowkey
  pub kept : s.kept ≡ kept_of c
  pub masks : map (λ t. t.mask) s.tables ≡ c.masks
  pub sources : All (IsSourceOf c) s.origin
  pub values : AllZip (λ column dict. All (FitsWide c column) dict) (dictionary_columns (width_of s) s.kept) s.dicts
